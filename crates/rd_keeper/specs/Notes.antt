-- Lists of session notes by rising id, one of each.
use Rattle.std.specs.Prelude.{ℕ, ◌<◌, ◌-◌, ◌==◌, nat_le, nat_lt, Bool, false, List, [], ◌∷◌, ◌++◌, Option, Some, None, option_map, length, filter, fold, slice_get, All, if◌then◌else◌}
use Rattle.std.specs.List.{list_any}
use Rattle.rd_base.specs.declared.session_note.SessionNote.{SessionNote}

abbrev pub has_id : ℕ → SessionNote → Bool
has_id id note = note.id == id

abbrev pub is_below : ℕ → SessionNote → Bool
is_below id note = nat_lt note.id id

abbrev pub is_above : ℕ → SessionNote → Bool
is_above id note = nat_lt id note.id

abbrev pub is_from : ℕ → SessionNote → Bool
is_from id note = nat_le id note.id

abbrev pub is_id_in : ℕ → Option SessionNote → Bool
is_id_in id None = false
is_id_in id (Some note) = has_id id note

-- whether a note of this id is kept
abbrev pub is_kept : ℕ → List SessionNote → Bool
is_kept id notes = list_any (has_id id) notes

-- a note is put: it stands between those of lesser and of greater id, or nothing changes where its id is kept
abbrev pub with_note : List SessionNote → SessionNote → List SessionNote
with_note notes note =
    if is_kept note.id notes then notes
    else filter (is_below note.id) notes ++ note ∷ filter (is_above note.id) notes

-- the notes after these puts, each put in turn
abbrev pub notes_after : List SessionNote → List SessionNote
notes_after puts = fold with_note [] puts

-- the notes from this id on
abbrev pub notes_from : ℕ → List SessionNote → List SessionNote
notes_from id notes = filter (is_from id) notes

-- the id of the last note
abbrev pub greatest_id : List SessionNote → Option ℕ
greatest_id notes = option_map (λ n. n.id) (slice_get notes (length notes - 1))

-- each id is below those behind it
abbrev pub AreRising : List SessionNote → Type 0
AreRising [] = Unit {0}
AreRising (note ∷ notes) = All (λ n. note.id < n.id) notes × AreRising notes
