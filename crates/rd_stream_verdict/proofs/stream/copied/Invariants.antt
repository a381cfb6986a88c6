use Rattle.std.proofs.Common.{◌≡◌, take}
use Rattle.rd_stream_verdict.proofs.stream.copied.Given as goal

abbrev pub invariant-loop-index : goal.invariant-loop-index
invariant-loop-index l = l.places ≡ take l.index l.mask
