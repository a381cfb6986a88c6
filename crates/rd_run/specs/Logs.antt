-- What contracts see of a session's log.
use Rattle.std.specs.Prelude.{List, Option}
use Rattle.rd_gate.specs.declared.gate.View.{View}
use Rattle.rd_turn.specs.declared.log.LogEntry.{LogEntry}

-- its entries, and what its owner's pass knows, where it has one
pub record LogView : Type 0 where
  pub entries : List LogEntry
  pub pass : Option View
