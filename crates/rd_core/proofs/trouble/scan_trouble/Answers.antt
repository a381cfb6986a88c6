use Rattle.std.proofs.Common.{ap₂, ◌∙◌}
use Rattle.rd_rules.specs.Trouble.{or_else}
use Rattle.rd_core.proofs.Looked.{malformed-due, unsupported-due}
use Rattle.rd_core.proofs.trouble.scan_trouble.Goals as goal

pub returns : goal.returns
returns c = λ g are.
    let stage = c.args.stage.now in
    let looks = c.args.looks.now in
    c.or_else-2.ensures
    ∙ ap₂ or_else (c.malformed-bad.ensures ∙ malformed-due g stage looks are)
    (c.or_else.ensures ∙ ap₂ or_else (c.in_ok-big.ensures g are) (c.unsupported-unknown.ensures ∙ unsupported-due g stage looks are))
