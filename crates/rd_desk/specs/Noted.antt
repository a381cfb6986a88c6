-- What sessions leave on a desk, and what the keeper has of it in the end.
use Rattle.std.specs.Prelude.{◌≡◌, ◌≤◌, ◌⊎◌, ℕ, List, [], ◌++◌, Option, Some, None, option_map, option_to_list, unwrap_or, map, fold}
use Rattle.rd_base.specs.declared.session_note.SessionNote.{SessionNote}
use Rattle.rd_base.specs.declared.values.Side.{Side}
use Rattle.rd_base.specs.Outside.{Rose}
use Rattle.rd_board.specs.declared.latest.BoardNote.{BoardNote}
use Rattle.rd_board.specs.Board.{capped}
use Rattle.rd_board.specs.Notes.{latest}
use Rattle.rd_board.specs.Calls.{Call, accepted}
use Rattle.rd_doors.specs.Visits.{without}
use Rattle.rd_keeper.specs.Keeping.{KeeperTold}
use Rattle.rd_keeper.specs.Notes.{with_note, greatest_id}
use Rattle.rd_runner.specs.declared.session.Summary.{Summary}
use Rattle.rd_desk.specs.declared.session.Begun.{Begun}
use Rattle.rd_desk.specs.Desk.{DeskView, Start, IsAt, pending, kept_notes}
use Rattle.rd_desk.specs.Notes.{note_of}

-- where ids begin over a keeper that tells these notes
abbrev pub start_over : KeeperTold → List SessionNote → Start
start_over keeper notes = record { keeper = keeper; greatest = unwrap_or (greatest_id notes) 0 }

-- the notes that the board of a desk accepted since it was opened are these, in this order
pub record HasNoted (start : Start) (notes : List SessionNote) (desk : DeskView) (keeper : KeeperTold) : Type 0 where
  pub calls : List Call
  pub at : IsAt start calls desk keeper
  pub are : map (λ n. n.note) (accepted calls) ≡ notes

-- a desk has these notes more, whatever its keeper; and the same notes
abbrev pub Adds : List SessionNote → DeskView → DeskView → Type 0
Adds more before after =
    (start : Start) (notes : List SessionNote) (keeper : KeeperTold)
    → HasNoted start notes before keeper → HasNoted start (notes ++ more) after keeper

abbrev pub AddsNone : DeskView → DeskView → Type 0
AddsNone before after =
    (start : Start) (notes : List SessionNote) (keeper : KeeperTold)
    → HasNoted start notes before keeper → HasNoted start notes after keeper

-- no fewer notes have left the board unkept; their number stands still at its greatest value
abbrev pub StillUnkept : DeskView → DeskView → Type 0
StillUnkept before after = capped before.board.unkept ≤ after.board.unkept

-- the note that a session leaves which began so: none without an id
abbrev pub note_left : Begun → Side → ℕ → ℕ → Summary → List SessionNote
note_left begun side dialect ended summary =
    option_to_list (option_map (λ id. note_of id side dialect begun.at ended summary) begun.id)

-- the ids without that of a session, if it has one
abbrev pub without_id : Option ℕ → List ℕ → List ℕ
without_id None ids = ids
without_id (Some id) ids = without id ids

-- the notes in the end, each marked kept or not: the keeper has those that are, put behind those of the start. Of the
-- last 10,000 each is, and all are but where the keeper's count of faults rose
pub record EndsKept (start : Start) (notes : List SessionNote) (keeper : KeeperTold) : Type 0 where
  pub marked : List BoardNote
  pub are : map (λ n. n.note) marked ≡ notes
  pub kept : keeper.notes ≡ option_map (λ ns. fold with_note ns (kept_notes marked)) start.keeper.notes
  pub last : pending (latest marked) ≡ []
  pub all : (kept_notes marked ≡ notes) ⊎ Rose start.keeper.faults keeper.faults
