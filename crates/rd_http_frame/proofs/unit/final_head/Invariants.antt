use Rattle.std.proofs.Common.{◌≤◌, length, drop, ◌-◌, Result}
use Rattle.rd_base.specs.declared.values.Scan.{Scan}
use Rattle.rd_http_frame.specs.declared.unit.FinalHead.{FinalHead}
use Rattle.rd_http_frame.specs.Units.{IsFinalHead, head_behind}
use Rattle.rd_http_frame.proofs.unit.final_head.Given as goal

abbrev pub invariant-loop-head : goal.invariant-loop-head
invariant-loop-head l =
    record {
      within : l.at ≤ length l.bytes;
      same : (found : Result FinalHead Scan) → IsFinalHead l.part (drop l.at l.bytes) found → IsFinalHead l.part l.bytes (head_behind l.at found);
    }

abbrev pub decreases-loop-head : goal.decreases-loop-head
decreases-loop-head l = length l.bytes - l.at
