use Rattle.std.proofs.Common.{◌≡◌, ◌++◌, length}
use Rattle.rd_base.specs.Outside.{IsPrefixOf}
use Rattle.rd_http_frame.specs.Chunks.{chunk_data}
use Rattle.rd_http_frame.proofs.flat.push_chunks.Given as goal

abbrev pub invariant-loop-line : goal.invariant-loop-line
invariant-loop-line l =
    record {
      same : l.out ++ chunk_data l.rest ≡ l.fn.out ++ chunk_data l.fn.bytes;
      begun : IsPrefixOf l.fn.out l.out;
    }

abbrev pub decreases-loop-line : goal.decreases-loop-line
decreases-loop-line l = length l.rest
