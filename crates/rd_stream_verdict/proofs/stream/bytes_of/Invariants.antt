use Rattle.rd_stream_verdict.proofs.KeptBytes.{IsCounted}
use Rattle.rd_stream_verdict.proofs.stream.bytes_of.Given as goal

abbrev pub invariant-loop-index : goal.invariant-loop-index
invariant-loop-index l = IsCounted l.copy l.rows l.index l.bytes
