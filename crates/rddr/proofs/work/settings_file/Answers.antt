use Rattle.std.proofs.Common.{ap, Err, ◌∙◌}
use Rattle.rddr.specs.Outcome.{settings_of_file}
use Rattle.rddr.proofs.Files.{settings_long}
use Rattle.rddr.proofs.work.settings_file.Goals as goal

pub returns-in-Err-TooLong-clause-refused : goal.returns-in-Err-TooLong-clause-refused
returns-in-Err-TooLong-clause-refused g c = λ told all tells.
    let long = c.in-Err-TooLong.ensures.too_long (ap Err c.in-Err-TooLong.field-0-is) all tells in
    ap settings_of_file long.1 ∙ settings_long long.0 long.2
