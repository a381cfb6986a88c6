use Rattle.std.proofs.Common.{◌≡◌, ◌++◌, map, take, drop}
use Rattle.rd_stream_verdict.specs.Heads.{passed}
use Rattle.rd_stream_verdict.proofs.buffers.pass_each.Given as goal

abbrev pub invariant-loop-copy : goal.invariant-loop-copy
invariant-loop-copy l = l.copies ≡ map passed (take l.copy-index l.initial.copies) ++ drop l.copy-index l.initial.copies
