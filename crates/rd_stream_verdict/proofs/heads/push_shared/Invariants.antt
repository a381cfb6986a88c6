use Rattle.std.proofs.Common.{◌≡◌, ◌+◌, ◌++◌, Some, length, replicate}
use Rattle.rd_stream_verdict.proofs.heads.push_shared.Given as goal

abbrev pub invariant-loop-i : goal.invariant-loop-i
invariant-loop-i l = record {
  size : length l.heads.items ≡ length l.initial.heads.items + l.i;
  items : l.heads.items ≡ l.initial.heads.items ++ replicate l.i (Some l.shared);
}
