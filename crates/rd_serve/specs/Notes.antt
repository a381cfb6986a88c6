-- The notes of a serving: one for each run that came back.
use Rattle.std.specs.Prelude.{◌≡◌, ℕ, ◌+◌, ◌-◌, ◌^◌, ◌≤◌, nat_lt, if◌then◌else◌, List, [], ◌∷◌, ◌++◌, Option, Some, None, option_map, option_to_list}
use Rattle.rd_base.specs.declared.session_note.SessionNote.{SessionNote}
use Rattle.rd_base.specs.declared.values.Side.{Side}
use Rattle.rd_doors.specs.Visits.{EndsTold, RunTold, Entry, Gave, GaveOperator, CameBack, TurnedAway, CameFromOperator}
use Rattle.rd_keeper.specs.Keeping.{KeeperTold}
use Rattle.rd_desk.specs.Desk.{Start}
use Rattle.rd_desk.specs.Noted.{EndsKept}
use Rattle.rd_desk.specs.Notes.{note_of, dialect_number}
use Rattle.rd_runner.specs.Runs.{Setup}
use Rattle.rd_run_session.specs.declared.left.SessionLeft.{SessionLeft}
use Rattle.rd_run_session.specs.Dialects.{dialect_on}
use Rattle.rd_run_session.specs.Left.{summary_of}

-- ---- what was told

-- how many visits of clients and callers were given
abbrev pub visits : {L : Type 0} → List (Entry L) → ℕ
visits [] = 0
visits (Gave side ends ∷ es) = 1 + visits es
visits (GaveOperator source sink ∷ es) = visits es
visits (CameBack run ∷ es) = visits es
visits (TurnedAway ends ∷ es) = visits es
visits (CameFromOperator source sink end ∷ es) = visits es

-- how many were turned away
abbrev pub turned : {L : Type 0} → List (Entry L) → ℕ
turned [] = 0
turned (Gave side ends ∷ es) = turned es
turned (GaveOperator source sink ∷ es) = turned es
turned (CameBack run ∷ es) = turned es
turned (TurnedAway ends ∷ es) = 1 + turned es
turned (CameFromOperator source sink end ∷ es) = turned es

-- the runs that came back, in their order
abbrev pub runs : {L : Type 0} → List (Entry L) → List (RunTold L)
runs [] = []
runs (Gave side ends ∷ es) = runs es
runs (GaveOperator source sink ∷ es) = runs es
runs (CameBack run ∷ es) = run ∷ runs es
runs (TurnedAway ends ∷ es) = runs es
runs (CameFromOperator source sink end ∷ es) = runs es

-- the visit was given, at this place, from 1, among those that weren't turned away
pub record IsPlaced {L : Type 0} (place : ℕ) (side : Side) (ends : EndsTold) (told : List (Entry L)) : Type 0 where
  pub before : List (Entry L)
  pub after : List (Entry L)
  pub is : before ++ Gave side ends ∷ after ≡ told
  pub counts : place + turned before ≡ visits before + 1

-- ---- notes

-- P holds of each of these and the one at its place in the other list, which is as long
abbrev pub Pairs : {A B : Type 0} → (A → B → Type 0) → List A → List B → Type 0
Pairs P [] [] = Unit {0}
Pairs P [] (y ∷ ys) = ⊥
Pairs P (x ∷ xs) [] = ⊥
Pairs P (x ∷ xs) (y ∷ ys) = P x y × Pairs P xs ys

-- the id of this place behind the greatest of the start: none past the last one, 2^63-1
abbrev pub id_at : ℕ → ℕ → Option ℕ
id_at greatest place = if nat_lt (2 ^ 63 - 1) (greatest + place) then None else Some (greatest + place)

-- two of these answers, in order
pub record InOrder (first second : ℕ) (answers : List ℕ) : Type 0 where
  pub before : List ℕ
  pub between : List ℕ
  pub after : List ℕ
  pub is : before ++ first ∷ between ++ second ∷ after ≡ answers

-- what a run leaves: a note under the id that stands as far behind the greatest of the start as its visit's place says,
-- with the side of its visit, the dialect of that side, two of the clock's answers in order, and what the run came to
pub record IsLeftBy {R : Type 0} (setup : Setup) (greatest : ℕ) (asked : List ℕ) (told : List (Entry (SessionLeft R))) (run : RunTold (SessionLeft R)) (left : Option SessionNote) : Type 0 where
  pub side : Side
  pub ends : EndsTold
  pub place : ℕ
  pub began : ℕ
  pub ended : ℕ
  pub placed : IsPlaced place side ends told
  pub number : ends.number ≡ run.number
  pub order : InOrder began ended asked
  pub is : left ≡ option_map (λ id. note_of id side (dialect_number (dialect_on side setup)) began ended (summary_of run.left.report)) (id_at greatest place)

-- the notes that were left
abbrev pub noted : List (Option SessionNote) → List SessionNote
noted [] = []
noted (left ∷ more) = option_to_list left ++ noted more

-- the notes are what the runs that came back left, in their order
pub record AreNotesOf {R : Type 0} (setup : Setup) (start : Start) (asked : List ℕ) (told : List (Entry (SessionLeft R))) (notes : List SessionNote) : Type 0 where
  pub left : List (Option SessionNote)
  pub each : Pairs (IsLeftBy setup start.greatest asked told) (runs told) left
  pub are : noted left ≡ notes

-- the keeper has in the end, behind the notes of the start, what the runs that came back left
pub record AllAreKept {R : Type 0} (setup : Setup) (start : Start) (asked : List ℕ) (told : List (Entry (SessionLeft R))) (keeper : KeeperTold) : Type 0 where
  pub notes : List SessionNote
  pub are : AreNotesOf setup start asked told notes
  pub kept : EndsKept start notes keeper

-- each visit that wasn't turned away has an id: none is past the last one
abbrev pub HasIds : {L : Type 0} → Start → List (Entry L) → Type 0
HasIds start told = start.greatest + visits told ≤ 2 ^ 63 - 1
