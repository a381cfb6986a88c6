-- What contracts see of a list of log entries.
use Rattle.std.specs.Prelude.{ℕ, List}
use Rattle.rd_turn.specs.declared.log.LogEntry.{LogEntry}

pub record EntriesState : Type 0 where
  pub list : List LogEntry
  pub spare : ℕ
