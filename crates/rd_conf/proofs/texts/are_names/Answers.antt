use Rattle.rd_conf.proofs.TextLemmas.{names_from_values, many_values}
use Rattle.rd_conf.proofs.texts.are_names.Goals as goal

pub returns-then-items-le32 : goal.returns-then-items-le32
returns-then-items-le32 c = names_from_values c.hold_names.result c.args.items.now c.requires c.if-items-le32.true c.hold_names.ensures

pub returns-else-items-le32 : goal.returns-else-items-le32
returns-else-items-le32 c = many_values c.args.items.now c.requires c.if-items-le32.false
