use Rattle.std.proofs.Common.{ap, Err, ◌∙◌}
use Rattle.rddr.specs.Outcome.{outcome_after, replay_under, script_outcome}
use Rattle.rddr.proofs.Files.{script_long}
use Rattle.rddr.proofs.work.replay_file.Goals as goal

pub returns-in-Err-TooLong-clause-refused : goal.returns-in-Err-TooLong-clause-refused
returns-in-Err-TooLong-clause-refused g c = λ told all tells.
    let long = c.in-Err-TooLong.ensures.too_long (ap Err c.in-Err-TooLong.field-0-is) all tells in
    ap (replay_under c.args.settings) long.1 ∙ ap (outcome_after (script_outcome c.args.settings)) (script_long c.args.settings.limits.copies long.0 long.2)
