use Rattle.std.proofs.Common.{◌≡◌, ◌≤◌, length, drop, ◌-◌}
use Rattle.rd_http_frame.specs.Chunks.{trailer_from, further}
use Rattle.rd_http_frame.proofs.chunk.trailer_from.Given as goal

abbrev pub invariant-loop-chunk : goal.invariant-loop-chunk
invariant-loop-chunk l =
    record {
      within : l.at ≤ length l.bytes;
      same : trailer_from l.bytes ≡ further l.at (trailer_from (drop l.at l.bytes));
    }

abbrev pub decreases-loop-chunk : goal.decreases-loop-chunk
decreases-loop-chunk l = length l.bytes - l.at
