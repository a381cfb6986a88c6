use Rattle.std.proofs.Common.{ap, ◌∙◌}
use Rattle.std.specs.Prelude.{is_some}
use Rattle.rd_core.proofs.Looked.{answerer-due}
use Rattle.rd_core.proofs.trouble.big_answerer.Goals as goal

pub returns-in-Some : goal.returns-in-Some
returns-in-Some c = λ g are.
    c.big_among.ensures ∙ answerer-due g c.args.stage.now c.args.looks.now are c.args.setup.now.limits.unit_max (ap is_some c.in-Some.is)
