use Rattle.std.proofs.Common.{◌≡◌}
use Rattle.rd_run.specs.Leaving.{Drains}
use Rattle.rd_run.proofs.leaving.drain.Given as goal

abbrev pub invariant-loop : goal.invariant-loop
invariant-loop g l = record { gate : l.gate.gate ≡ l.fn.gate.gate; drains : Drains l.fn.gate.knows l.gate.knows l.fn.left l.left }
