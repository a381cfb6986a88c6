use Rattle.std.proofs.Common.{◌≡◌, map, Some}
use Rattle.rd_shared_book.proofs.lender.slots_of.Given as goal

abbrev pub invariant-loop-item : goal.invariant-loop-item
invariant-loop-item g l = l.slots.items ≡ map (λ x. Some x) l.yielded
