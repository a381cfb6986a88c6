-- The reply to what was asked for, of a board and a keeper.
use Rattle.std.specs.Prelude.{◌≡◌, ℕ, ◌≤◌, List, Option, Some, None, Result, Ok, Err, find, take}
use Rattle.rd_base.specs.declared.session_note.SessionNote.{SessionNote}
use Rattle.rd_board.specs.Board.{BoardView}
use Rattle.rd_keeper.specs.declared.keeper.KeepFail.{KeepFail}
use Rattle.rd_keeper.specs.declared.keeper.KeepFail.TheVariants.{Failed, NoMemory}
use Rattle.rd_keeper.specs.Keeping.{KeeperTold, Answers, HasCause}
use Rattle.rd_keeper.specs.Notes.{has_id, notes_from}
use Rattle.rd_operator.specs.declared.asked.Asked.{Asked}
use Rattle.rd_operator.specs.declared.asked.Asked.TheVariants.{Refused, Live, Totals, Notes, Note}
use Rattle.rd_operator.specs.Texts.{ReplyView, fine, refusal, live_data, totals_data, note_data, notes_data}

-- by what a keeper answered: 503 where it failed
abbrev pub notes_reply : Result (List SessionNote) KeepFail → ReplyView
notes_reply (Ok notes) = fine (notes_data notes)
notes_reply (Err Failed) = refusal 503
notes_reply (Err NoMemory) = refusal 500

-- and 404 where it has no such note
abbrev pub note_reply : Result (Option SessionNote) KeepFail → ReplyView
note_reply (Ok (Some note)) = fine (note_data note)
note_reply (Ok None) = refusal 404
note_reply (Err Failed) = refusal 503
note_reply (Err NoMemory) = refusal 500

-- the reply is by an answer of the keeper in this call. Where the keeper tells its notes, the answer is this one
-- of them; it is Failed only where the keeper's count of faults rose
pub record ByKeeper {A : Type 0} (reply_of : Result A KeepFail → ReplyView) (answer_of : List SessionNote → A) (reply : ReplyView) (before after : KeeperTold) : Type 0 where
  pub answer : Result A KeepFail
  pub is : reply ≡ reply_of answer
  pub told : Answers answer answer_of before
  pub cause : HasCause answer before after

-- the most notes of a page
abbrev pub page_size : ℕ
page_size = 100

-- the reply to a request
abbrev pub Replies : BoardView → Asked → ReplyView → KeeperTold → KeeperTold → Type 0
Replies board (Refused status) reply before after = reply ≡ refusal status
Replies board Live reply before after = reply ≡ fine (live_data board.live)
Replies board Totals reply before after = reply ≡ fine (totals_data board)
Replies board (Notes from) reply before after =
    ByKeeper notes_reply (λ notes. take page_size (notes_from from notes)) reply before after
Replies board (Note id) reply before after = ByKeeper note_reply (find (has_id id)) reply before after

-- a keeper was only read: it keeps what it kept, and its count doesn't fall
pub record StaysKept (before after : KeeperTold) : Type 0 where
  pub notes : after.notes ≡ before.notes
  pub faults : before.faults ≤ after.faults
