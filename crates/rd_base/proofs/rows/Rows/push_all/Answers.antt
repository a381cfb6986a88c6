use Rattle.std.proofs.Common.{◌≡◌, ◌∙◌, ◌++◌, map, ap, ap₂, sym, subst}
use Rattle.std.specs.Arc.{arc_value}
use Rattle.std.specs.List.{All}
use Rattle.std.proofs.lemmas.List.Elements.{All-append}
use Rattle.rd_base.specs.History.{Row}
use Rattle.rd_base.specs.Swap.{IsRowWord, AreRowWords}
use Rattle.rd_base.proofs.SharedRows.{map-clones, from_ok, from_err}
use Rattle.rd_base.proofs.rows.Rows.push_all.Goals as goal

made : (c : goal.Else-is_err) → map arc_value c.extend_from_slice.new.self.items ≡ map arc_value c.self.inside.kept.items ++ map arc_value c.more.inside.kept.items
made c =
    let clones = from_ok c.extend_from_slice.result _ (sym c.is_err.ensures.value ∙ c.if-is_err.false) c.extend_from_slice.ensures.items in
    map-clones arc_value c.self.inside.kept.items c.as_slice.result.now clones.0 c.extend_from_slice.new.self.items clones.1 clones.2
    ∙ ap (λ more. map arc_value c.self.inside.kept.items ++ map arc_value more) c.as_slice.ensures.value

pub returns-clause-ok : goal.returns-clause-ok
returns-clause-ok c = made c ∙ ap₂ ◌++◌ c.self.view_is c.more.view_is

pub invariant_of-self : goal.invariant_of-self
invariant_of-self c =
    let same = from_err c.extend_from_slice.result _ (sym c.is_err.ensures.value ∙ c.if-is_err.true) c.extend_from_slice.ensures.err in
    subst (λ items. AreRowWords (map arc_value items)) (sym same.0) c.self.invariant

pub invariant_of-self-2 : goal.invariant_of-self-2
invariant_of-self-2 c =
    let all = All-append (λ (row : Row). All IsRowWord row) (map arc_value c.self.inside.kept.items) (map arc_value c.more.inside.kept.items) c.self.invariant c.more.invariant in
    subst AreRowWords (sym (made c)) all
