use Rattle.std.proofs.Common.{ap, sym, Err, ◌∙◌}
use Rattle.std.proofs.lemmas.Result.{err_from_is_err_and}
use Rattle.rddr.specs.Outcome.{settings_or_outcome}
use Rattle.rddr.proofs.Files.{settings_fit}
use Rattle.rddr.proofs.Refused.{fault_told, told_fault}
use Rattle.rddr.proofs.work.settings_of.Goals as goal

pub returns-in_err-read_settings-clause-refused : goal.returns-in_err-read_settings-clause-refused
returns-in_err-read_settings-clause-refused c =
    let p = err_from_is_err_and c.from_residual.result c.from_residual.ensures.1 in
    let fault = c.in_err-read_settings.field-0.0 in
    rw (p.1, p.2)
    (λ told.
    settings_fit c.args.text.now c.requires
    ∙ ap settings_or_outcome (c.in_err-read_settings.ensures.fault (told_fault fault told))
    ∙ ap Err (sym (fault_told fault told)))

pub returns-clause-settings : goal.returns-clause-settings
returns-clause-settings c = settings_fit c.args.text.now c.requires ∙ ap settings_or_outcome c.in_ok-read_settings.ensures.settings
