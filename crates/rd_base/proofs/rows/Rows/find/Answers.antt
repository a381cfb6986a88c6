use Rattle.std.proofs.Common.{◌∙◌, Some, None, ◌<◌, find, length, get_or, map, refl, sym, ap, arith}
use Rattle.std.specs.Prelude.{slice_get}
use Rattle.std.specs.Arc.{arc_value}
use Rattle.std.proofs.lemmas.List.{length-map}
use Rattle.std.proofs.lemmas.Option.{slice_get_read}
use Rattle.rd_base.specs.Swap.{shows, IsRowWord}
use Rattle.rd_base.proofs.Lookups.{place_shown, found_at, found_none}
use Rattle.rd_base.proofs.WordRows.{none_shown}
use Rattle.rd_base.proofs.rows.Rows.find.Goals as goal
use Rattle.rd_base.proofs.rows.Rows.find.Goals.{then-word-lt16-via-then-word-lt16, then-word-lt16-via-else-word-lt16+then-word-gt128}

pub returns-in-Some : goal.returns-in-Some
returns-in-Some c =
    let items = c.self.inside.kept.items in
    let test = shows c.args.word.now in
    let at = place_shown arc_value test items c.as_slice-kept.result.now c.args.self.now (Some c.in-Some.place) c.in-Some.ensures.place c.as_slice-kept.ensures.value c.self.view_is in
    let read = c.row_at.ensures ∙ ap (λ xs. get_or (map arc_value xs) c.in-Some.place c.row_at.result.now) c.as_slice-kept.ensures.value in
    let within : c.in-Some.place < length (map arc_value items) = rw length-map (omega (arith, c.in-Some.ensures.within, ap length c.as_slice-kept.ensures.value)) in
    let here = slice_get_read (map arc_value items) (length (map arc_value items)) c.in-Some.place c.row_at.result.now refl within read in
    sym (found_at test c.args.self.now c.in-Some.place at ∙ ap (λ xs. slice_get xs c.in-Some.place) (sym c.self.view_is) ∙ here)

pub returns-in-None : goal.returns-in-None
returns-in-None c =
    sym (found_none (shows c.args.word.now) c.args.self.now (place_shown arc_value (shows c.args.word.now) c.self.inside.kept.items c.as_slice-kept.result.now c.args.self.now None c.in-None.ensures.place c.as_slice-kept.ensures.value c.self.view_is))

pub returns-then-word-lt16 : goal.returns-then-word-lt16
returns-then-word-lt16 c =
    let not_row : IsRowWord c.args.word.now → ⊥ = λ is. elim c.then-word-lt16.branch [ then-word-lt16-via-then-word-lt16 w ↦ omega (arith, is.least, w.if-word-lt16) | then-word-lt16-via-else-word-lt16+then-word-gt128 w ↦ omega (arith, is.most, w.if-word-gt128) ] in
    sym (ap (find (shows c.args.word.now)) (sym c.self.view_is) ∙ none_shown c.args.word.now (map arc_value c.self.inside.kept.items) not_row c.self.invariant)
