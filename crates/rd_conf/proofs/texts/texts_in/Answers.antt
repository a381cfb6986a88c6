use Rattle.std.proofs.Common.{◌≡◌, ◌∙◌, sym, ap, Some, option_map, true, false}
use Rattle.toml.specs.Data.{as_array}
use Rattle.toml.specs.View.{view, items_view, array_view}
use Rattle.rd_conf.specs.Lists.{are_texts}
use Rattle.rd_conf.proofs.TextLemmas.{an_array, values_are_texts}
use Rattle.rd_conf.proofs.texts.texts_in.Goals as goal

pub returns-then-not-are_texts-clause-row : goal.returns-then-not-are_texts-clause-row
returns-then-not-are_texts-clause-row c =
    let items = c.as_slice-items.result.now in
    let seen : Some (items_view items) ≡ as_array (view c.args.value.now) =
    rw c.as_slice-items.ensures.value (sym (ap (option_map (λ v. array_view v.now)) c.in-Some.is) ∙ c.as_array.ensures) in
    let same : false ≡ are_texts (items_view items) = sym c.if-not-are_texts.true ∙ (c.are_texts.ensures ∙ values_are_texts items) in
    an_array c.args.key (view c.args.value.now) (items_view items) false seen same

pub returns-clause-texts : goal.returns-clause-texts
returns-clause-texts c = sym (values_are_texts c.as_slice-items.result.now) ∙ (sym c.are_texts.ensures ∙ c.if-not-are_texts.false)

pub returns-clause-row : goal.returns-clause-row
returns-clause-row c =
    let items = c.as_slice-items.result.now in
    let seen : Some (items_view items) ≡ as_array (view c.args.value.now) =
    rw c.as_slice-items.ensures.value (sym (ap (option_map (λ v. array_view v.now)) c.in-Some.is) ∙ c.as_array.ensures) in
    let same : true ≡ are_texts (items_view items) = sym c.if-not-are_texts.false ∙ (c.are_texts.ensures ∙ values_are_texts items) in
    an_array c.args.key (view c.args.value.now) (items_view items) true seen same
