use Rattle.std.proofs.Common.{All}
use Rattle.rd_base.specs.MemSource.{IsPiece}
use Rattle.rd_run_rows.proofs.links.pieces.Given as goal

abbrev pub invariant-loop-text : goal.invariant-loop-text
invariant-loop-text l = All IsPiece l.pieces.items
