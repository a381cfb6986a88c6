-- What a session leaves, in numbers.
use Rattle.std.specs.Prelude.{ℕ, ◌^◌, ◌-◌, min, List, [], ◌∷◌, length}
use Rattle.rd_runner.specs.declared.session.Summary.{Summary}
use Rattle.rd_turn.specs.declared.log.LogEntry.{LogEntry}
use Rattle.rd_run.specs.declared.run.Report.{Report}

-- the stamp of the last entry, 0 where there is none
abbrev pub last_stamp : List LogEntry → ℕ
last_stamp [] = 0
last_stamp (e ∷ []) = e.at
last_stamp (e ∷ f ∷ more) = last_stamp (f ∷ more)

abbrev pub summary_of : {R : Type 0} → Report R → Summary
summary_of r = record {
  ending = r.ending;
  last = last_stamp r.log.entries;
  events = min (length r.log.entries) (2 ^ 32 - 1);
  exchanges = r.exchanges;
  masked = r.masked;
}
