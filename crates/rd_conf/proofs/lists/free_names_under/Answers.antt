use Rattle.std.proofs.Common.{◌≡◌, ◌∙◌, sym, true}
use Rattle.toml.specs.View.{view, items_view}
use Rattle.rd_conf.specs.declared.key.Key.TheVariants.{FreeNames}
use Rattle.rd_conf.specs.Lists.{are_free_names, texts_of}
use Rattle.rd_conf.proofs.NameLemmas.{lower_names, are_names_when_free, taken}
use Rattle.rd_conf.proofs.lists.free_names_under.Goals as goal

pub returns : goal.returns
returns c =
    let firm = c.args.firm.now in
    let texts = texts_of (items_view c.in_ok-items.items.now) in
    let right : are_free_names firm texts ≡ true = sym c.are_free_names.ensures ∙ c.if-not-are_free_names.false in
    taken FreeNames (are_free_names firm) (view c.args.value.now) texts c.in_ok-names_of.field-0 c.in_ok-items.ensures.row right
    (c.in_ok-names_of.ensures ∙ lower_names texts (are_names_when_free firm texts right))
