use Rattle.std.proofs.Common.{All}
use Rattle.rd_base.specs.MemSource.{IsPiece}
use Rattle.rd_gate.proofs.tests.pieces.Given as goal

abbrev pub invariant-loop-letter : goal.invariant-loop-letter
invariant-loop-letter l = All IsPiece l.pieces.items
