use Rattle.std.proofs.Common.{All}
use Rattle.rd_base.specs.MemSource.{IsPiece}
use Rattle.rd_stress.proofs.links.Speech.say.Given as goal

abbrev pub invariant-loop : goal.invariant-loop
invariant-loop l = All IsPiece l.self.pieces.items
