-- The runs that came back, beside the counts and the span of who ran them.
use Rattle.std.specs.Prelude.{◌≡◌, ℕ, ◌+◌, ◌≤◌, List, [], ◌∷◌, Some}
use Rattle.rd_doors.specs.Visits.{Entry, Gave, GaveOperator, CameBack, TurnedAway, CameFromOperator}
use Rattle.rd_doors.specs.Calls.{DoorsTold}
use Rattle.rd_runner.specs.Counts.{RunnerTold, RoseBy, stopped, unstarted, late}
use Rattle.rd_run_session.specs.declared.left.SessionLeft.{SessionLeft}
use Rattle.rd_run_session.specs.Left.{summary_of}

-- the sum of these numbers over the runs that came back
abbrev pub sum_runs : {L : Type 0} → (L → ℕ) → List (Entry L) → ℕ
sum_runs f [] = 0
sum_runs f (Gave side ends ∷ es) = sum_runs f es
sum_runs f (GaveOperator source sink ∷ es) = sum_runs f es
sum_runs f (CameBack run ∷ es) = f run.left + sum_runs f es
sum_runs f (TurnedAway ends ∷ es) = sum_runs f es
sum_runs f (CameFromOperator source sink end ∷ es) = sum_runs f es

-- P holds of each run that came back
abbrev pub EachRun : {L : Type 0} → (L → Type 0) → List (Entry L) → Type 0
EachRun P [] = Unit {0}
EachRun P (Gave side ends ∷ es) = EachRun P es
EachRun P (GaveOperator source sink ∷ es) = EachRun P es
EachRun P (CameBack run ∷ es) = P run.left × EachRun P es
EachRun P (TurnedAway ends ∷ es) = EachRun P es
EachRun P (CameFromOperator source sink end ∷ es) = EachRun P es

-- how many runs that came back were stopped
abbrev pub times_stopped : {R : Type 0} → List (Entry (SessionLeft R)) → ℕ
times_stopped told = sum_runs (λ l. stopped (summary_of l.report).ending) told

-- how many couldn't be started
abbrev pub times_unstarted : {R : Type 0} → List (Entry (SessionLeft R)) → ℕ
times_unstarted told = sum_runs (λ l. unstarted (summary_of l.report).ending) told

-- a run that was Late has a stamp of at most this
abbrev pub IsWithin : {R : Type 0} → ℕ → SessionLeft R → Type 0
IsWithin span l = late (summary_of l.report).last (summary_of l.report).ending ≤ span

-- since serving began, no more runs came back stopped or unstarted than the counts rose by, unless they stand at
-- their last value, and none was Late past the span
pub record CountedBy {R : Type 0} (first now : RunnerTold) (doors : DoorsTold (SessionLeft R)) : Type 0 where
  pub setup : now.setup ≡ first.setup
  pub yeses : (told : List (Entry (SessionLeft R))) → doors.told ≡ Some told → RoseBy (times_stopped told) first.yeses now.yeses
  pub refusals : (told : List (Entry (SessionLeft R))) → doors.told ≡ Some told → RoseBy (times_unstarted told) first.refusals now.refusals
  pub span : (told : List (Entry (SessionLeft R))) → doors.told ≡ Some told → EachRun (IsWithin now.span) told
