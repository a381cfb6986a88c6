use Rattle.std.proofs.Common.{◌≡◌, take}
use Rattle.rd_stream_verdict.proofs.stream.StreamVerdict.learnt.Given as goal

abbrev pub invariant-loop-index : goal.invariant-loop-index
invariant-loop-index l = l.rows ≡ take l.index l.self-inside.rows
