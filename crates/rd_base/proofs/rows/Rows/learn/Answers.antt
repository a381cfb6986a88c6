use Rattle.std.proofs.Common.{◌≡◌, ◌<◌, ◌∷◌, [], ◌∙◌, map, ap, ap₂, sym, subst, get_or, length, not, arith}
use Rattle.std.specs.List.{All}
use Rattle.std.specs.Prelude.{filter}
use Rattle.std.proofs.lemmas.List.{length-map}
use Rattle.std.specs.Arc.{arc_value}
use Rattle.rd_base.specs.History.{Row}
use Rattle.rd_base.specs.Swap.{IsRowWord, AreRowWords, shows}
use Rattle.rd_base.specs.OwnRows.{learn_row, shown_of}
use Rattle.rd_base.proofs.SharedRows.{learn_row-shared, AreRowWords-learn_row, get_or-map, put_is, from_ok}
use Rattle.rd_base.proofs.rows.Rows.learn.Goals as goal

row_is : (c : goal.Joined-is_put) → arc_value c.in-Ok.row ≡ get_or c.args.rows.now c.args.place []
row_is c =
    let items = c.rows.inside.kept.items in
    let within : c.args.place < length items = omega (arith, c.requires.within, ap length c.rows.view_is, length-map items arc_value) in
    c.in-Ok.ensures
    ∙ ap arc_value (c.index-as_slice-place.is ∙ ap (λ xs. get_or xs c.args.place c.index-as_slice-place.result) c.as_slice.ensures.value)
    ∙ get_or-map arc_value items c.args.place c.index-as_slice-place.result [] within
    ∙ ap (λ rows. get_or rows c.args.place []) c.rows.view_is

made : (c : goal.Joined-is_put) → map arc_value c.insert-is_put.new.self.items ≡ learn_row c.args.most (map arc_value c.self.inside.kept.items) (arc_value c.in-Ok.row)
made c =
    let room = from_ok c.reserve.result _ (sym c.is_err.ensures.value ∙ c.if-is_err.false) c.reserve.ensures.ok in
    let put = put_is c.insert-is_put.result c.insert-is_put.new.self.items (c.in-Ok.row ∷ c.truncate.new.self.items) c.truncate.new.self.items
    (c.insert-is_put.ensures.succeeds (omega (arith, room, c.drop_shown.ensures.room, c.drop_shown.ensures.fewer, c.truncate.ensures.len, c.truncate.ensures.capacity))) c.insert-is_put.ensures.items in
    learn_row-shared arc_value c.args.most c.in-Ok.row c.self.inside.kept.items c.drop_shown.new.rows.items c.truncate.new.self.items c.insert-is_put.new.self.items c.word.result.now
    c.requires.some (c.word.ensures ∙ ap shown_of c.deref.ensures) (c.drop_shown.ensures.kept ∙ ap (filter (λ row. not (shows c.word.result.now (arc_value row)))) c.reserve.ensures.items) c.truncate.ensures.items put

pub returns-clause-ok : goal.returns-clause-ok
returns-clause-ok c = made c ∙ ap₂ (learn_row c.args.most) c.self.view_is (row_is c)

pub invariant_of-self-2 : goal.invariant_of-self-2
invariant_of-self-2 c =
    let rows = map arc_value c.self.inside.kept.items in
    let all : AreRowWords c.args.rows.now = subst AreRowWords c.rows.view_is c.rows.invariant in
    let words : All IsRowWord (arc_value c.in-Ok.row) = subst (λ (row : Row). All IsRowWord row) (sym (row_is c)) (all c.args.place [] c.requires.within) in
    subst AreRowWords (sym (made c)) (AreRowWords-learn_row c.args.most rows (arc_value c.in-Ok.row) c.self.invariant words)
