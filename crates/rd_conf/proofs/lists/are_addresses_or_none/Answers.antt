use Rattle.std.proofs.Common.{◌∙◌, sym}
use Rattle.rd_conf.proofs.TextLemmas.{some_addresses, no_addresses}
use Rattle.rd_conf.proofs.lists.are_addresses_or_none.Goals as goal

pub returns-then-is_empty : goal.returns-then-is_empty
returns-then-is_empty c = c.if-is_empty.true ∙ no_addresses c.args.copies c.args.items.now c.requires (sym c.is_empty.ensures ∙ c.if-is_empty.true)

pub returns-else-is_empty : goal.returns-else-is_empty
returns-else-is_empty c =
    some_addresses c.are_addresses.result c.args.copies c.args.items.now c.requires (sym c.is_empty.ensures ∙ c.if-is_empty.false) c.are_addresses.ensures
