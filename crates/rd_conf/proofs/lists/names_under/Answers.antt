use Rattle.std.proofs.Common.{◌≡◌, ◌∙◌, sym, true}
use Rattle.toml.specs.View.{view, items_view}
use Rattle.rd_conf.specs.Lists.{are_names, texts_of}
use Rattle.rd_conf.proofs.NameLemmas.{lower_names, taken}
use Rattle.rd_conf.proofs.lists.names_under.Goals as goal

pub returns : goal.returns
returns c =
    let texts = texts_of (items_view c.in_ok-items.items.now) in
    let right : are_names texts ≡ true = sym c.are_names.ensures ∙ c.if-not-are_names.false in
    taken c.args.key are_names (view c.args.value.now) texts c.in_ok-names_of.field-0 c.in_ok-items.ensures.row right
    (c.in_ok-names_of.ensures ∙ lower_names texts right)
