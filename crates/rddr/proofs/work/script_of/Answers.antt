use Rattle.std.proofs.Common.{ap, Err, ◌∙◌}
use Rattle.std.proofs.lemmas.Result.{err_from_is_err_and}
use Rattle.rddr.specs.Outcome.{script_or_outcome}
use Rattle.rddr.proofs.Files.{script_fits}
use Rattle.rddr.proofs.Refused.{bad_line_told}
use Rattle.rddr.proofs.work.script_of.Goals as goal

pub returns-in_err-read_script-clause-refused : goal.returns-in_err-read_script-clause-refused
returns-in_err-read_script-clause-refused c =
    let p = err_from_is_err_and c.from_residual.result c.from_residual.ensures.1 in
    rw (p.1, p.2)
    (bad_line_told c.args.copies c.args.text.now c.in_err-read_script.field-0.0 c.requires.fits c.in_err-read_script.ensures.bad_line)

pub returns-clause-script : goal.returns-clause-script
returns-clause-script c = script_fits c.args.copies c.args.text.now c.requires.fits ∙ ap script_or_outcome c.in_ok-read_script.ensures.script
