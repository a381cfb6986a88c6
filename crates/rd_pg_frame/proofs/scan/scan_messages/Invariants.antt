use Rattle.std.proofs.Common.{◌≡◌, ◌≤◌, ◌==◌, length, drop, ◌-◌}
use Rattle.rd_base.specs.Scans.{behind}
use Rattle.rd_pg_frame.specs.Scanning.{scan_messages, scan_up_to}
use Rattle.rd_pg_frame.proofs.scan.scan_messages.Given as goal

abbrev pub invariant-loop-front : goal.invariant-loop-front
invariant-loop-front g l =
    record {
      within : l.at ≤ length l.bytes;
      same : scan_messages (g.T.LetterTable.letters l.table) l.bytes ≡ behind l.at (scan_up_to (length (drop l.at l.bytes)) (g.T.LetterTable.letters l.table) (l.at == 0) (drop l.at l.bytes));
    }

abbrev pub decreases-loop-front : goal.decreases-loop-front
decreases-loop-front g l = length l.bytes - l.at
