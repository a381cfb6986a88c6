use Rattle.std.proofs.Common.{◌≡◌, ◌<◌, Some, None, find, length, refl, sym, ap, ◌∙◌, arith}
use Rattle.std.specs.List.{position}
use Rattle.std.proofs.lemmas.Option.{slice_get_read}
use Rattle.rd_base.specs.Swap.{shows}
use Rattle.rd_base.proofs.Lookups.{found_at, found_none}
use Rattle.rd_shared_book.proofs.book_rows.BookRows.find.Goals as goal

pub returns-in-Some : goal.returns-in-Some
returns-in-Some c =
    let items = c.self.inside.rows.items in
    let test = shows c.args.word.now in
    let place = c.in-Some.place in
    let at : position test items ≡ Some place = sym (c.in-Some.ensures.place ∙ ap (λ w. position (shows w) c.deref.result.now) c.new-word.ensures ∙ ap (position test) c.deref.ensures.value) in
    let within : place < length items = omega (arith, c.in-Some.ensures.within, ap length c.deref.ensures.value) in
    let here = slice_get_read items (length items) place c.index.result.now refl within c.index.ensures in
    ap Some c.copied.ensures ∙ sym (ap (find test) (sym c.self.view_is) ∙ found_at test items place at ∙ here)

pub returns-in-None : goal.returns-in-None
returns-in-None c =
    let items = c.self.inside.rows.items in
    let test = shows c.args.word.now in
    let none : position test items ≡ None = sym (c.in-None.ensures.place ∙ ap (λ w. position (shows w) c.deref.result.now) c.new-word.ensures ∙ ap (position test) c.deref.ensures.value) in
    sym (ap (find test) (sym c.self.view_is) ∙ found_none test items none)
