-- Notes hold no float.
use Rattle.std.proofs.Common.{◌≡◌, ℕ, ap, ◌∙◌, false, List, [], ◌∷◌, refl, map}
use Rattle.serde_json.specs.Written.{has_float, items_have_float, compact_text}
use Rattle.serde_json.specs.View.{view}
use Rattle.serde_json.specs.declared.value.Value.{Value}
use Rattle.rd_base.specs.declared.session_note.SessionNote.{SessionNote}
use Rattle.rd_operator.specs.Texts.{note_data, items_from, notes_data}

notes_have_no_float : (notes : List SessionNote) → items_have_float (items_from (map note_data notes)) ≡ false
notes_have_no_float [] = refl
notes_have_no_float (n ∷ notes) = notes_have_no_float notes

pub page_has_no_float : (notes : List SessionNote) → has_float (notes_data notes) ≡ false
page_has_no_float notes = items_only (notes_have_no_float notes)
  where
    items_only : items_have_float (items_from (map note_data notes)) ≡ false → has_float (notes_data notes) ≡ false
    items_only h = rw h refl

pub page_text : (v : Value) (notes : List SessionNote) (text : List ℕ) → view v ≡ notes_data notes
    → (has_float (view v) ≡ false → text ≡ compact_text (view v)) → text ≡ compact_text (notes_data notes)
page_text v notes text same h = h (ap has_float same ∙ page_has_no_float notes) ∙ ap compact_text same
