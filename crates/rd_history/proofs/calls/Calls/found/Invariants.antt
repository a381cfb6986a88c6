use Rattle.std.proofs.Common.{◌≡◌}
use Rattle.rd_history.proofs.calls.Calls.found.Given as goal

abbrev pub invariant-loop : goal.invariant-loop
invariant-loop g l = l.self ≡ l.initial.self
