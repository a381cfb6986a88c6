use Rattle.std.proofs.Common.{◌≡◌, ◌∙◌, sym, true}
use Rattle.toml.specs.View.{items_view}
use Rattle.rd_conf.specs.Lists.{are_addresses_or_none, texts_of}
use Rattle.rd_conf.proofs.PortLemmas.{counted_or_none}
use Rattle.rd_conf.proofs.lists.callers_under.Goals as goal

pub returns-clause-count : goal.returns-clause-count
returns-clause-count c =
    let texts = texts_of (items_view c.in_ok-items.items.now) in
    let right : are_addresses_or_none c.args.copies texts ≡ true = sym c.are_addresses_or_none.ensures ∙ c.if-not-are_addresses_or_none.false in
    counted_or_none c.args.copies texts c.in_ok-words_of.field-0 right c.in_ok-words_of.ensures
