use Rattle.std.proofs.Common.{◌∙◌}
use Rattle.rd_core.proofs.Looked.{asker-due}
use Rattle.rd_core.proofs.trouble.big_asker.Goals as goal

pub returns-in_default-None : goal.returns-in_default-None
returns-in_default-None c = λ g are.
    c.big_among.ensures ∙ asker-due g c.args.stage.now c.args.looks.now are c.args.setup.now.limits.unit_max c.args.setup.now.side c.in_default-None.is-1
