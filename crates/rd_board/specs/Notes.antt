-- Lists of notes on a board, the oldest first.
use Rattle.std.specs.Prelude.{ℕ, ◌-◌, ◌==◌, ◌&&◌, nat_lt, Bool, true, false, not, List, [], ◌∷◌, Option, None, length, take, drop, slice_get, if◌then◌else◌}
use Rattle.rd_base.specs.declared.session_note.SessionNote.{SessionNote}
use Rattle.rd_board.specs.declared.latest.BoardNote.{BoardNote}

-- a note that isn't marked kept
abbrev pub fresh : SessionNote → BoardNote
fresh note = record { note = note; is_kept = false }

abbrev pub has_id : ℕ → BoardNote → Bool
has_id id n = n.note.id == id

abbrev pub is_unkept : BoardNote → Bool
is_unkept n = not n.is_kept

abbrev pub is_unkept_of : ℕ → BoardNote → Bool
is_unkept_of id n = has_id id n && is_unkept n

-- the last 10,000
abbrev pub latest : List BoardNote → List BoardNote
latest notes = drop (length notes - 10000) notes

-- those before the last 10,000
abbrev pub before_latest : List BoardNote → List BoardNote
before_latest notes = take (length notes - 10000) notes

-- of the last notes, the one that goes as a further one comes
abbrev pub let_go : List BoardNote → Option BoardNote
let_go notes = if nat_lt (length notes) 10000 then None else slice_get notes 0

-- the note of this id is marked kept
abbrev pub mark_first : ℕ → List BoardNote → List BoardNote
mark_first id [] = []
mark_first id (n ∷ ns) =
    if is_unkept_of id n then record n { is_kept = true } ∷ ns else n ∷ mark_first id ns
