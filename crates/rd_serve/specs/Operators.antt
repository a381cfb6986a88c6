-- What operators are answered.
use Rattle.std.specs.Prelude.{◌≡◌, ◌≤◌, ◌⊎◌, ℕ, ◌+◌, List, [], ◌∷◌, ◌++◌, Some, option_map, length, map, fold, sum_by}
use Rattle.rd_base.specs.Clocks.{ClockTold}
use Rattle.rd_base.specs.Counts.{told_with}
use Rattle.rd_base.specs.Outside.{SinkTold, Rose}
use Rattle.rd_base.specs.Sources.{SourceTold}
use Rattle.rd_base.specs.declared.session_note.OperatorEnd.{OperatorEnd}
use Rattle.rd_base.specs.declared.session_note.SessionNote.{SessionNote}
use Rattle.rd_board.specs.declared.latest.BoardNote.{BoardNote}
use Rattle.rd_board.specs.Board.{BoardView, capped}
use Rattle.rd_doors.specs.Visits.{Entry, Gave, GaveOperator, CameBack, TurnedAway, CameFromOperator, out_of}
use Rattle.rd_doors.specs.Calls.{DoorsTold, TakesBack}
use Rattle.rd_keeper.specs.Keeping.{KeeperTold}
use Rattle.rd_keeper.specs.Notes.{with_note}
use Rattle.rd_desk.specs.Desk.{Start, kept_notes}
use Rattle.rd_desk.specs.Noted.{start_over}
use Rattle.rd_operator.specs.Calls.{Operates}
use Rattle.rd_runner.specs.Runs.{Setup}
use Rattle.rd_run_session.specs.declared.left.SessionLeft.{SessionLeft}
use Rattle.rd_serve.specs.Serving.{Has}
use Rattle.rd_serve.specs.Notes.{AreNotesOf, AllAreKept, HasIds}

-- an operator's visit was answered by this board and this keeper, and came back with its end
pub record Answered {L : Type 0} (board : BoardView) (source : SourceTold) (sink : SinkTold) (before after : DoorsTold L) (keeper keeper_after : KeeperTold) : Type 0 where
  pub end : OperatorEnd
  pub source_after : SourceTold
  pub sink_after : SinkTold
  pub answers : Operates board end source source_after sink sink_after keeper keeper_after
  pub back : TakesBack (CameFromOperator source_after sink_after end) before after

-- how many visits of operators were given
abbrev pub asked_for : {L : Type 0} → List (Entry L) → ℕ
asked_for [] = 0
asked_for (Gave side ends ∷ es) = asked_for es
asked_for (GaveOperator source sink ∷ es) = 1 + asked_for es
asked_for (CameBack run ∷ es) = asked_for es
asked_for (TurnedAway ends ∷ es) = asked_for es
asked_for (CameFromOperator source sink end ∷ es) = asked_for es

-- how many came back
abbrev pub answered : {L : Type 0} → List (Entry L) → ℕ
answered [] = 0
answered (Gave side ends ∷ es) = answered es
answered (GaveOperator source sink ∷ es) = answered es
answered (CameBack run ∷ es) = answered es
answered (TurnedAway ends ∷ es) = answered es
answered (CameFromOperator source sink end ∷ es) = 1 + answered es

module _ {R : Type 0} (setup : Setup) (start : Start) (asked : List ℕ) (unkept : ℕ) where
  -- an operator's visit was given, and was answered: by a board on which the visits that are out are live, with the sums
  -- of the notes of the runs that came back before, of which no more than these were let go unkept, and by a keeper that
  -- has some of these notes behind those of the start
  pub record IsAnswer (before : List (Entry (SessionLeft R))) (source : SourceTold) (sink : SinkTold) (end : OperatorEnd) : Type 0 where
    pub source_before : SourceTold
    pub sink_before : SinkTold
    pub given : Has (GaveOperator source_before sink_before) before
    pub board : BoardView
    pub keeper : KeeperTold
    pub keeper_after : KeeperTold
    pub answers : Operates board end source_before source sink_before sink keeper keeper_after
    pub live : board.live ≡ length (out_of before)
    pub let_go : board.unkept ≤ unkept
    pub marked : List BoardNote
    pub are : AreNotesOf setup start asked before (map (λ n. n.note) marked)
    pub sessions : board.sessions ≡ capped (length marked)
    pub exchanges : board.exchanges ≡ capped (sum_by (λ n. n.note.exchanges) marked)
    pub masked : board.masked ≡ capped (sum_by (λ n. n.note.masked) marked)
    pub kept : keeper.notes ≡ option_map (λ ns. fold with_note ns (kept_notes marked)) start.keeper.notes

  abbrev pub IsRightAnswer : List (Entry (SessionLeft R)) → Entry (SessionLeft R) → Type 0
  IsRightAnswer before (Gave side ends) = Unit {0}
  IsRightAnswer before (GaveOperator source sink) = Unit {0}
  IsRightAnswer before (CameBack run) = Unit {0}
  IsRightAnswer before (TurnedAway ends) = Unit {0}
  IsRightAnswer before (CameFromOperator source sink end) = IsAnswer before source sink end

  -- each operator's visit that came back was answered so, where it stands behind these
  abbrev pub EachAnswered : List (Entry (SessionLeft R)) → List (Entry (SessionLeft R)) → Type 0
  EachAnswered before [] = Unit {0}
  EachAnswered before (e ∷ es) = IsRightAnswer before e × EachAnswered (before ++ e ∷ []) es

  -- the visits of operators each came back, answered
  pub record AllAnswered (told : List (Entry (SessionLeft R))) : Type 0 where
    pub each : EachAnswered [] told
    pub all : asked_for told ≡ answered told

-- each run has left its note, and each operator's visit has its answer, where each visit has an id: no board had a note
-- that was let go unkept, but where the keeper's count of faults rose
pub record NotesAndAnswers {R : Type 0} (setup : Setup) (start : Start) (asked : List ℕ) (told : List (Entry (SessionLeft R))) (keeper : KeeperTold) : Type 0 where
  pub notes : AllAreKept setup start asked told keeper
  pub unkept : ℕ
  pub answers : HasIds start told → AllAnswered setup start asked unkept told
  pub all_kept : (unkept ≡ 0) ⊎ Rose start.keeper.faults keeper.faults

-- the clock gave these answers more, of which P holds
pub record Answering (P : List ℕ → Type 0) (before after : ClockTold) : Type 0 where
  pub more : List ℕ
  pub are : after.answers ≡ fold told_with before.answers more
  pub holds : P more

-- the same, over a keeper that tells its notes, by the clock's answers of this serving
abbrev pub AllNoted : {R : Type 0} → Setup → List (Entry (SessionLeft R)) → ClockTold → ClockTold → KeeperTold → KeeperTold → Type 0
AllNoted setup told clock clock_after keeper keeper_after =
    (notes : List SessionNote) → keeper.notes ≡ Some notes
    → Answering (λ asked. NotesAndAnswers setup (start_over keeper notes) asked told keeper_after) clock clock_after
