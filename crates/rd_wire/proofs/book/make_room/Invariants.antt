use Rattle.std.proofs.Common.{◌≡◌}
use Rattle.rd_wire.proofs.book.make_room.Given as goal

abbrev pub invariant-loop : goal.invariant-loop
invariant-loop g l = l.calls.items ≡ l.initial.calls.items
