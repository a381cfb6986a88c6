use Rattle.std.proofs.Common.{All}
use Rattle.rd_base.specs.MemSource.{IsPiece}
use Rattle.rd_stress.proofs.links.speech_of.Given as goal

abbrev pub invariant-loop-exchange : goal.invariant-loop-exchange
invariant-loop-exchange l = All IsPiece l.speech.pieces.items
