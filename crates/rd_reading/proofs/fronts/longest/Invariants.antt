use Rattle.std.specs.Prelude.{IfSome}
use Rattle.rd_dialect.specs.Due.{IsDue}
use Rattle.rd_reading.proofs.fronts.longest.Given as goal

abbrev pub invariant-loop-one : goal.invariant-loop-one
invariant-loop-one g l = IfSome l.longest (λ said. IsDue (g.D.Dialect.grammar l.dialect) l.due said.0.now said.1)
