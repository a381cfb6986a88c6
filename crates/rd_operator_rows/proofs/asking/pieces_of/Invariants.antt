use Rattle.std.specs.Prelude.{All}
use Rattle.rd_base.specs.MemSource.{IsPiece}
use Rattle.rd_operator_rows.proofs.asking.pieces_of.Given as goal

abbrev pub invariant-chunks : goal.invariant-chunks
invariant-chunks l = All IsPiece l.pieces.items
