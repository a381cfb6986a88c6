use Rattle.std.proofs.Common.{◌≡◌}
use Rattle.rd_gate.proofs.tests.taken.Given as goal

abbrev pub invariant-loop : goal.invariant-loop
invariant-loop g l = l.owner.gate ≡ l.fn.owner.gate
