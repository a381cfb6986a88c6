use Rattle.std.proofs.Common.{◌≡◌}
use Rattle.rd_gate.specs.Reads.{Reading}
use Rattle.rd_gate.proofs.reader.reader_loop.Given as goal

abbrev pub invariant-loop-count : goal.invariant-loop-count
invariant-loop-count g l = record {
  gate : l.pass.gate ≡ l.fn.pass.gate;
  reading : Reading (g.S.Source.tells l.fn.source) (g.S.Source.tells l.source) l.fn.pass.knows l.pass.knows l._count;
}
