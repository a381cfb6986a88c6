use Rattle.std.proofs.Common.{ap, ap₂, ◌∙◌}
use Rattle.std.specs.Prelude.{is_some}
use Rattle.rd_base.specs.declared.values.Ending.TheVariants as ending
use Rattle.rd_rules.specs.Trouble.{by_links, least_open, is_left}
use Rattle.rd_core.proofs.Looked.{cut-due, left-due}
use Rattle.rd_core.proofs.trouble.broken.Goals as goal

pub returns-in-Some : goal.returns-in-Some
returns-in-Some c = λ g are.
    c.cut_among.ensures ∙ cut-due g c.args.stage.now c.args.looks.now are (ap is_some c.in-Some.is) c.args.side

pub returns-in-None : goal.returns-in-None
returns-in-None c = λ g are.
    c.by_links.ensures
    ∙ ap₂ (by_links c.args.side) (c.left_among-left.ensures ∙ ap (least_open ending.Broken is_left) c.as_slice.ensures.value) c.cut_asker.ensures
    ∙ left-due g c.args.stage.now c.args.looks.now are (ap is_some c.in-None.is) c.args.side
