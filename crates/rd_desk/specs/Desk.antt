-- What is kept of the sessions that are live, and of those that have ended.
use Rattle.std.specs.Prelude.{◌≡◌, ℕ, ◌+◌, ◌-◌, ◌^◌, ◌<◌, ◌≤◌, ◌==◌, min, Bool, true, false, List, [], ◌∷◌, ◌++◌, Option, Some, MatchOption, option_map, unwrap_or, length, map, filter, fold, count_by}
use Rattle.rd_base.specs.declared.session_note.SessionNote.{SessionNote}
use Rattle.rd_base.specs.Outside.{Rose}
use Rattle.rd_board.specs.declared.latest.BoardNote.{BoardNote}
use Rattle.rd_board.specs.Notes.{has_id, is_unkept}
use Rattle.rd_board.specs.Calls.{Call, MarkedKept, accepted, begun}
use Rattle.rd_board.specs.Board.{BoardView, IsAfter, empty}
use Rattle.rd_keeper.specs.Keeping.{KeeperTold}
use Rattle.rd_keeper.specs.Notes.{with_note, greatest_id}

-- the board, the ids of the sessions that are live, and whether a put was Failed
pub record DeskView : Type 0 where
  pub board : BoardView
  pub ids : List ℕ
  pub had_fault : Bool

-- ---- notes

-- the notes that aren't kept yet, and those that are, the oldest first
abbrev pub pending : List BoardNote → List SessionNote
pending notes = map (λ n. n.note) (filter is_unkept notes)

abbrev pub kept_notes : List BoardNote → List SessionNote
kept_notes notes = map (λ n. n.note) (filter (λ n. n.is_kept) notes)

-- notes are kept in order: behind one that isn't none is
abbrev pub AreInOrder : List BoardNote → Type 0
AreInOrder [] = Unit {0}
AreInOrder (n ∷ ns) = (n.is_kept ≡ false → filter (λ m. m.is_kept) ns ≡ []) × AreInOrder ns

-- their moments can be kept
abbrev pub HaveMoments : List BoardNote → Type 0
HaveMoments [] = Unit {0}
HaveMoments (n ∷ ns) = (n.note.began ≤ 2 ^ 63 - 1) × (n.note.ended ≤ 2 ^ 63 - 1) × HaveMoments ns

-- how often an id is used, by sessions that are live and by notes
abbrev pub uses : ℕ → List ℕ → List BoardNote → ℕ
uses id ids notes = count_by (λ n. n == id) ids + count_by (has_id id) notes

-- what holds of each desk: no id is used twice, and none is that wasn't drawn
pub record IsOrderly (board : BoardView) (ids : List ℕ) : Type 0 where
  pub live : board.live ≡ length ids
  pub few : length ids ≤ 32
  pub long : length board.latest ≤ 10000
  pub once : (id : ℕ) → uses id ids board.latest ≤ 1
  pub within : (id : ℕ) → min board.drawn (2 ^ 63 - 1) < id → uses id ids board.latest ≡ 0
  pub moments : HaveMoments board.latest
  pub in_order : AreInOrder board.latest

-- ---- what calls come to

-- what the keeper told as a desk was opened, and the greatest id then
pub record Start : Type 0 where
  pub keeper : KeeperTold
  pub greatest : ℕ

-- a desk and its keeper are what these calls of the board come to: ids are drawn behind the greatest, and the keeper's
-- notes are those of the start and of the calls' notes those that are marked kept, none else
pub record IsAt (start : Start) (calls : List Call) (desk : DeskView) (keeper : KeeperTold) : Type 0 where
  pub board : IsAfter desk.board calls
  pub drawn : desk.board.drawn ≡ start.greatest + begun calls
  pub notes : keeper.notes ≡ option_map (λ ns. fold with_note ns (kept_notes (accepted calls))) start.keeper.notes
  pub faults : start.keeper.faults ≤ keeper.faults
  pub had_fault : desk.had_fault ≡ true → Rose start.keeper.faults keeper.faults

-- these further calls lead from one desk to another, whatever its keeper
abbrev pub FollowsWith : List Call → DeskView → DeskView → Type 0
FollowsWith more before after =
    (start : Start) (calls : List Call) (keeper : KeeperTold)
    → IsAt start calls before keeper → IsAt start (calls ++ more) after keeper

-- a desk as it is opened over a keeper: no session is live, and none has ended
pub record Opens (desk : DeskView) (keeper : KeeperTold) : Type 0 where
  pub board : desk.board ≡ empty desk.board.drawn
  pub greatest : (notes : List SessionNote) → keeper.notes ≡ Some notes → desk.board.drawn ≡ unwrap_or (greatest_id notes) 0
  pub ids : desk.ids ≡ []
  pub had_fault : desk.had_fault ≡ false

abbrev pub with_session : DeskView → ℕ → DeskView
with_session desk id =
    record desk { board = record desk.board { drawn = id; live = desk.board.live + 1 }; ids = desk.ids ++ id ∷ [] }

-- a session begins with the next id; none is drawn past 2^63-1, and then nothing changes
abbrev pub Begins : DeskView → Option ℕ → DeskView → Type 0
Begins before id after =
    MatchOption id ((2 ^ 63 - 1 ≤ before.board.drawn) × (after ≡ before))
    (λ n. (before.board.drawn < 2 ^ 63 - 1) × (n ≡ before.board.drawn + 1) × (after ≡ with_session before n))

-- some notes are put to the keeper and marked kept, no more than these: the oldest that were pending
pub record Keeps (most : ℕ) (before after : DeskView) (keeper keeper_after : KeeperTold) : Type 0 where
  pub puts : List SessionNote
  pub few : length puts ≤ most
  pub oldest : puts ++ pending after.board.latest ≡ pending before.board.latest
  pub board : after.board ≡ record before.board { latest = after.board.latest }
  pub notes : map (λ n. n.note) after.board.latest ≡ map (λ n. n.note) before.board.latest
  pub ids : after.ids ≡ before.ids
  pub had_fault : before.had_fault ≡ true → after.had_fault ≡ true
  pub kept : keeper_after.notes ≡ option_map (λ ns. fold with_note ns puts) keeper.notes
  pub faults : keeper.faults ≤ keeper_after.faults
  pub at : (start : Start) (calls : List Call) → IsAt start calls before keeper → IsAt start (calls ++ map (λ n. MarkedKept n.id) puts) after keeper_after
