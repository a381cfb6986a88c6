-- What is told of sessions that were served side by side.
use Rattle.std.specs.Prelude.{◌≡◌, ℕ, ◌==◌, ◌+◌, ◌<◌, ◌⊎◌, Bool, true, false, List, [], ◌∷◌, ◌++◌, length, Some}
use Rattle.rd_base.specs.declared.values.Side.{Side}
use Rattle.rd_doors.specs.Visits.{EndsTold, RunTold, Entry, Gave, GaveOperator, CameBack, TurnedAway, CameFromOperator, out_of, AreFresh, Holds}
use Rattle.rd_doors.specs.Calls.{DoorsTold}
use Rattle.rd_runner.specs.Runs.{Setup, Ran}

-- the entry stands among these
abbrev pub Has : {L : Type 0} → Entry L → List (Entry L) → Type 0
Has e [] = ⊥
Has e (x ∷ xs) = (x ≡ e) ⊎ Has e xs

module _ {L : Type 0} (by : Setup → Side → EndsTold → RunTold L → Type 0) (setup : Setup) where
  -- the run is that of a visit that was given before, over its own sources and sinks
  pub record IsRunOf (before : List (Entry L)) (run : RunTold L) : Type 0 where
    pub side : Side
    pub ends : EndsTold
    pub given : Has (Gave side ends) before
    pub ran : Ran by setup side ends run

  -- an entry may stand behind these: 33 visits are out at most, a run that comes back is that of a visit that is out, and
  -- a visit is turned away unused, and only where 33 are out
  abbrev pub IsRight : List (Entry L) → Entry L → Type 0
  IsRight before (Gave side ends) = (length (out_of before) < 33) × AreFresh setup.limits.copies ends
  IsRight before (GaveOperator source sink) = Unit {0}
  IsRight before (CameBack run) = Holds run.number (out_of before) × IsRunOf before run
  IsRight before (TurnedAway ends) = Holds ends.number (out_of before) × (length (out_of before) ≡ 33) × AreFresh setup.limits.copies ends
  IsRight before (CameFromOperator source sink end) = Unit {0}

  -- each entry is right where it stands
  abbrev pub EachRight : List (Entry L) → List (Entry L) → Type 0
  EachRight before [] = Unit {0}
  EachRight before (e ∷ es) = IsRight before e × EachRight (before ++ e ∷ []) es

  -- what is told of a serving: each entry is right behind those before it
  abbrev pub IsServed : List (Entry L) → Type 0
  IsServed told = EachRight [] told

  -- what doors that tell have told of the serving, and that they know which visits are out
  pub record Tells (doors : DoorsTold L) : Type 0 where
    pub copies : doors.copies ≡ Some setup.limits.copies
    pub served : (told : List (Entry L)) → doors.told ≡ Some told → IsServed told
    pub out : (told : List (Entry L)) → doors.told ≡ Some told → doors.out ≡ out_of told

abbrev pub one_if : Bool → ℕ
one_if true = 1
one_if false = 0

-- how often a visit of this number was given
abbrev pub times_given : {L : Type 0} → ℕ → List (Entry L) → ℕ
times_given n [] = 0
times_given n (Gave side ends ∷ es) = one_if (ends.number == n) + times_given n es
times_given n (GaveOperator source sink ∷ es) = times_given n es
times_given n (CameBack run ∷ es) = times_given n es
times_given n (TurnedAway ends ∷ es) = times_given n es
times_given n (CameFromOperator source sink end ∷ es) = times_given n es

-- how often a visit of this number came back or was turned away
abbrev pub times_ended : {L : Type 0} → ℕ → List (Entry L) → ℕ
times_ended n [] = 0
times_ended n (Gave side ends ∷ es) = times_ended n es
times_ended n (GaveOperator source sink ∷ es) = times_ended n es
times_ended n (CameBack run ∷ es) = one_if (run.number == n) + times_ended n es
times_ended n (TurnedAway ends ∷ es) = one_if (ends.number == n) + times_ended n es
times_ended n (CameFromOperator source sink end ∷ es) = times_ended n es
