-- The book of a serving, by the runs that came back.
use Rattle.std.specs.Prelude.{◌≡◌, ℕ, ◌+◌, ◌==◌, if◌then◌else◌, List, [], ◌∷◌, ◌++◌, length, Some}
use mathlib.Core.List.{IsPrefix}
use Rattle.rd_base.specs.History.{Row}
use Rattle.rd_base.specs.declared.values.Side.{Side}
use Rattle.rd_doors.specs.Visits.{EndsTold, RunTold, Entry, Gave, CameBack}
use Rattle.rd_history.specs.declared.learn.Learn.{Learn}
use Rattle.rd_history.specs.Learns.{of_seat, learns_by}
use Rattle.rd_lent_book.specs.Answers.{AreAnswers}
use Rattle.rd_lent_book.specs.Seats.{learned}
use Rattle.rd_runner.specs.Runs.{Setup}
use Rattle.rd_run_session.specs.Asking.{CameWith}
use Rattle.rd_run_session.specs.declared.left.SessionLeft.{SessionLeft}
use Rattle.rd_serve.specs.Notes.{Pairs, runs}
use Rattle.rd_token_map.specs.BookCalls.{BookCall}

-- the seat of a run, and what the run asked and told it
pub record SeatRun : Type 0 where
  pub seat : ℕ
  pub calls : List BookCall

-- the rows that a run learnt on this seat
abbrev pub rows_by : ℕ → SeatRun → List Row
rows_by seat run = if run.seat == seat then learned run.calls else []

-- the rows that runs learnt on this seat, in order
abbrev pub rows_on : ℕ → List SeatRun → List Row
rows_on seat [] = []
rows_on seat (run ∷ more) = rows_by seat run ++ rows_on seat more

-- the list holds, each once, the rows that these runs learnt
abbrev pub HoldsRuns : List SeatRun → List Learn → Type 0
HoldsRuns all list = (seat : ℕ) → IsPrefix (learns_by seat (rows_on seat all)) (of_seat seat list)

-- it holds no others, and each at most once
abbrev pub HoldsOnly : List SeatRun → List Learn → Type 0
HoldsOnly all list = (seat : ℕ) → IsPrefix (of_seat seat list) (learns_by seat (rows_on seat all))

-- what is said of a run that came back
pub record IsBooked (S : Type 0) {R : Type 0} (setup : Setup) (told : List (Entry (SessionLeft R))) (whole : List Learn) (all : List SeatRun) (run : RunTold (SessionLeft R)) (asked : SeatRun) : Type 0 where
  pub side : Side
  pub ends : EndsTold
  pub number : ends.number ≡ run.number
  -- where its visit was given, and where it came back
  pub before : List (Entry (SessionLeft R))
  pub between : List (Entry (SessionLeft R))
  pub after : List (Entry (SessionLeft R))
  pub place : before ++ Gave side ends ∷ between ++ CameBack run ∷ after ≡ told
  -- the runs that had come back before its visit, then those that came back before it
  pub first : List SeatRun
  pub second : List SeatRun
  pub others : List SeatRun
  pub are : first ++ second ++ asked ∷ others ≡ all
  pub first_count : length first ≡ length (runs before)
  pub second_count : length second ≡ length (runs between)
  -- its session asked and told its seat exactly this, behind what the seat had been asked before
  pub had : List BookCall
  pub came : CameWith S setup side ends run (Some had) (Some (had ++ asked.calls))
  -- each answer is that of the book after one list, which holds what was learnt before its visit, and exactly its own rows so far
  pub from : List Learn
  pub holds : HoldsRuns first from
  pub answers : AreAnswers asked.seat whole (rows_on asked.seat (first ++ second)) from asked.calls

-- the runs that came back were answered by lists that begin one whole list, which holds only rows that they learnt
pub record ServedBook (S : Type 0) {R : Type 0} (setup : Setup) (told : List (Entry (SessionLeft R))) : Type 0 where
  pub all : List SeatRun
  pub whole : List Learn
  pub each : Pairs (IsBooked S setup told whole all) (runs told) all
  pub only : HoldsOnly all whole
