use Rattle.std.proofs.Common.{◌-◌, length}
use Rattle.rd_operator.proofs.Heard.{HearsOn}
use Rattle.rd_operator.proofs.hearing.hear.Given as goal

abbrev pub invariant-pieces : goal.invariant-pieces
invariant-pieces g l = HearsOn l.bytes (g.S.Source.tells l.fn.source) (g.S.Source.tells l.source)

abbrev pub decreases-pieces : goal.decreases-pieces
decreases-pieces g l = 65536 - length l.bytes
