-- What contracts see of doors in memory.
use Rattle.std.specs.Prelude.{ℕ, ◌+◌, ◌*◌, ◌≤◌, Vec, vec_len, vec_capacity}
use Rattle.rd_base.specs.Outside.{SinkTold}
use Rattle.rd_base.specs.Sources.{SourceTold}
use Rattle.rd_mem_doors.specs.declared.mem_doors.Told.{Told}
use Rattle.rd_mem_doors.specs.declared.mem_doors.Told.TheVariants as told
use Rattle.rd_doors.specs.Visits.{Entry, Gave, GaveOperator, CameBack, TurnedAway, CameFromOperator, ends_told, run_told}

module _ {S K : Type 0} (source : S → SourceTold) (sink : K → SinkTold) where
  abbrev pub told_entry : {L : Type 0} → Told S K L → Entry L
  told_entry (told.Gave side ends) = Gave side (ends_told source sink ends.value)
  told_entry (told.CameBack number run sinks) = CameBack (run_told source sink number run sinks.items)
  told_entry (told.TurnedAway ends) = TurnedAway (ends_told source sink ends)
  told_entry (told.GaveOperator s k) = GaveOperator (source s.value) (sink k.value)
  told_entry (told.CameFromOperator s k end) = CameFromOperator (source s) (sink k) end

-- room for each visit that is still to come, to be told twice and to be out, and for the end of each that is out
pub record HasRoom {X A Y B C : Type 0} (contents : Vec X A) (told : Vec Y B) (out : Vec ℕ C) (asking : ℕ) : Type 0 where
  pub told_room : vec_len told + 2 * vec_len contents + vec_len out + asking ≤ vec_capacity told
  pub out_room : vec_len out + vec_len contents ≤ vec_capacity out
