use Rattle.std.proofs.Common.{Ok, refl, arith}
use Rattle.rd_base.specs.declared.values.Part.TheVariants.{Reply}
use Rattle.rd_http_frame.proofs.UnitCuts.{shown_once, found_whole}
use Rattle.rd_http_frame.proofs.FinalOnce.{final_fits}
use Rattle.rd_http_frame.proofs.unit.shown_from.Goals as goal

pub returns-in-Ok-clause-only : goal.returns-in-Ok-clause-only
returns-in-Ok-clause-only c = λ other is. shown_once c.args.reply.now other c.in-Ok.head.from is (c.in-Ok.head, c.in-Ok.ensures.head, refl)

pub returns-in-Ok-clause-within : goal.returns-in-Ok-clause-within
returns-in-Ok-clause-within c =
    let fits = final_fits Reply c.args.reply.now (Ok c.in-Ok.head) c.in-Ok.head c.in-Ok.ensures.head refl in
    omega (arith, fits.0, fits.1)

pub returns-in-Err-clause-from : goal.returns-in-Err-clause-from
returns-in-Err-clause-from c =
    absurd (found_whole Reply c.requires.0 c.requires.1 c.args.reply.now _ c.in-Err.field-0 c.requires.2 c.in-Err.ensures.head refl)

pub returns-in-Err-clause-only : goal.returns-in-Err-clause-only
returns-in-Err-clause-only c =
    absurd (found_whole Reply c.requires.0 c.requires.1 c.args.reply.now _ c.in-Err.field-0 c.requires.2 c.in-Err.ensures.head refl)

pub returns-in-Err-clause-within : goal.returns-in-Err-clause-within
returns-in-Err-clause-within c =
    absurd (found_whole Reply c.requires.0 c.requires.1 c.args.reply.now _ c.in-Err.field-0 c.requires.2 c.in-Err.ensures.head refl)
