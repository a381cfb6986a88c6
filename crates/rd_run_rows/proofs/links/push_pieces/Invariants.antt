use Rattle.std.proofs.Common.{All}
use Rattle.rd_base.specs.MemSource.{IsPiece}
use Rattle.rd_run_rows.proofs.links.push_pieces.Given as goal

abbrev pub invariant-loop-part : goal.invariant-loop-part
invariant-loop-part l = All IsPiece l.pieces.items
