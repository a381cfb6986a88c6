-- What doors tell, and what each call of theirs does to it.
use Rattle.std.specs.Prelude.{◌≡◌, ℕ, ◌+◌, ◌≤◌, Bool, true, false, List, map, Option, Some, None, Result, Err, OnOk}
use Rattle.rd_base.specs.Outside.{Rose, SinkTold}
use Rattle.rd_base.specs.Sources.{SourceTold}
use Rattle.rd_doors.specs.declared.visit.Visit.{Visit}
use Rattle.rd_doors.specs.declared.visit.Visit.TheVariants as visit
use Rattle.rd_doors.specs.declared.doors.DoorFail.{DoorFail}
use Rattle.rd_doors.specs.declared.doors.DoorFail.TheVariants as fail
use Rattle.rd_doors.specs.Visits.{Entry, Gave, GaveOperator, CameBack, TurnedAway, CameFromOperator, AreFresh, IsFreshOperator, entries_with, out_after, marks_of}

-- the list of what was told, where they tell it; the numbers of the visits that are out; whether they have answered
-- Over; the count of faults; the visits given of clients and callers, those of operators, and how many of the latter
-- are out; the copies, once the ports are made
pub record DoorsTold (L : Type 0) : Type 0 where
  pub told : Option (List (Entry L))
  pub out : List ℕ
  pub is_over : Bool
  pub faults : ℕ
  pub visits : ℕ
  pub operators : ℕ
  pub asking : ℕ
  pub copies : Option ℕ

-- ports are made for so many copies; no visit comes or goes
pub record MakesPorts {L : Type 0} (copies : ℕ) (result : Result (Unit {0}) DoorFail) (before after : DoorsTold L) : Type 0 where
  pub made : OnOk result (after.copies ≡ Some copies)
  pub failed : result ≡ Err fail.Failed → Rose before.faults after.faults
  pub faults : before.faults ≤ after.faults
  pub told : after.told ≡ before.told
  pub out : after.out ≡ before.out
  pub is_over : after.is_over ≡ before.is_over
  pub visits : after.visits ≡ before.visits
  pub operators : after.operators ≡ before.operators
  pub asking : after.asking ≡ before.asking

-- what may be given next: the visit of the next number with fresh links, or the operators' visit of the next place
abbrev pub MayCome : {L : Type 0} → DoorsTold L → Option (Entry L) → Type 0
MayCome doors None = Unit {0}
MayCome doors (Some (Gave side ends)) =
    (ends.number ≡ doors.visits + 1) × ((copies : ℕ) → doors.copies ≡ Some copies → AreFresh copies ends)
MayCome doors (Some (GaveOperator s k)) = IsFreshOperator (doors.operators + 1) s k
MayCome doors (Some (CameBack run)) = ⊥
MayCome doors (Some (TurnedAway ends)) = ⊥
MayCome doors (Some (CameFromOperator s k end)) = ⊥

-- 1 for a visit of clients or callers
abbrev pub one_gave : {L : Type 0} → Option (Entry L) → ℕ
one_gave None = 0
one_gave (Some (Gave side ends)) = 1
one_gave (Some (GaveOperator s k)) = 0
one_gave (Some (CameBack run)) = 0
one_gave (Some (TurnedAway ends)) = 0
one_gave (Some (CameFromOperator s k end)) = 0

-- 1 for a visit of an operator
abbrev pub one_operator : {L : Type 0} → Option (Entry L) → ℕ
one_operator None = 0
one_operator (Some (Gave side ends)) = 0
one_operator (Some (GaveOperator s k)) = 1
one_operator (Some (CameBack run)) = 0
one_operator (Some (TurnedAway ends)) = 0
one_operator (Some (CameFromOperator s k end)) = 0

abbrev pub is_over_visit : {S K : Type 0} → Visit S K → Bool
is_over_visit (visit.Client ends) = false
is_over_visit (visit.Callers ends) = false
is_over_visit (visit.Operator s k) = false
is_over_visit visit.Quiet = false
is_over_visit visit.Over = true
is_over_visit visit.Failed = false
is_over_visit visit.NoMemory = false

-- 1 for an operator's visit that comes back
abbrev pub one_back : {L : Type 0} → Entry L → ℕ
one_back (Gave side ends) = 0
one_back (GaveOperator s k) = 0
one_back (CameBack run) = 0
one_back (TurnedAway ends) = 0
one_back (CameFromOperator s k end) = 1

-- something comes back, and is told
pub record TakesBack {L : Type 0} (e : Entry L) (before after : DoorsTold L) : Type 0 where
  pub told : after.told ≡ entries_with (Some e) before.told
  pub out : after.out ≡ out_after e before.out
  pub is_over : after.is_over ≡ before.is_over
  pub faults : before.faults ≤ after.faults
  pub visits : after.visits ≡ before.visits
  pub operators : after.operators ≡ before.operators
  pub asking : before.asking ≡ after.asking + one_back e
  pub copies : after.copies ≡ before.copies

-- these are the sources and sinks of the visit of this number, by their marks
pub record AreLinksOf {L S K : Type 0} (source : S → SourceTold) (sink : K → SinkTold) (number : ℕ) (ss : List S) (ks : List K) (doors : DoorsTold L) : Type 0 where
  pub sources : (copies : ℕ) → doors.copies ≡ Some copies → map (λ s. s.mark) (map source ss) ≡ marks_of copies number
  pub sinks : (copies : ℕ) → doors.copies ≡ Some copies → map (λ k. k.mark) (map sink ks) ≡ marks_of copies number
