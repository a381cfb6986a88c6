use Rattle.std.proofs.Common.{◌≡◌, [], false, replicate}
use Rattle.rd_stream_verdict.proofs.buffers.Buffers.new.Given as goal

abbrev pub invariant-loop-i : goal.invariant-loop-i
invariant-loop-i l = l.kept.items ≡ replicate l.i (record { fed = 0; waiting = []; is_whole = false })
