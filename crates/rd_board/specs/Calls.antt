-- What a list of calls on a board comes to.
use Rattle.std.specs.Prelude.{ℕ, Bool, true, false, List, [], ◌∷◌, ◌++◌, count_by, fold, if◌then◌else◌}
use Rattle.std.specs.List.{list_any}
use Rattle.rd_base.specs.declared.session_note.SessionNote.{SessionNote}
use Rattle.rd_board.specs.declared.latest.BoardNote.{BoardNote}
use Rattle.rd_board.specs.Notes.{fresh, has_id, latest, before_latest, mark_first}

-- a call on a board
pub data Call : Type 0 where
  Began : Call
  Noted : SessionNote → Call
  MarkedKept : ℕ → Call

abbrev pub is_began : Call → Bool
is_began Began = true
is_began (Noted note) = false
is_began (MarkedKept id) = false

-- the notes accepted so far, and one call more. A note is refused where one of the last 10,000 has its id, and
-- only one of these can be marked kept
abbrev pub accepted_with : List BoardNote → Call → List BoardNote
accepted_with notes Began = notes
accepted_with notes (Noted note) =
    if list_any (has_id note.id) (latest notes) then notes else notes ++ fresh note ∷ []
accepted_with notes (MarkedKept id) = before_latest notes ++ mark_first id (latest notes)

-- every note that was accepted, each marked kept or not
abbrev pub accepted : List Call → List BoardNote
accepted calls = fold accepted_with [] calls

-- the number of sessions that began
abbrev pub begun : List Call → ℕ
begun calls = count_by is_began calls
