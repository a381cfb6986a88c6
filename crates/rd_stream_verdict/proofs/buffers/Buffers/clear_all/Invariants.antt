use Rattle.std.proofs.Common.{◌≡◌, ◌++◌, map, take, drop}
use Rattle.rd_stream_verdict.specs.Heads.{cleared}
use Rattle.rd_stream_verdict.proofs.buffers.Buffers.clear_all.Given as goal

abbrev pub invariant-loop-copy : goal.invariant-loop-copy
invariant-loop-copy l = l.copy-items ≡ map cleared (take l.copy-index l.initial.copy-items) ++ drop l.copy-index l.initial.copy-items
