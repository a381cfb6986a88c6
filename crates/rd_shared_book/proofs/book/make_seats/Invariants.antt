use Rattle.std.proofs.Common.{◌≡◌}
use Rattle.rd_lent_book.specs.Seats.{new_seats}
use Rattle.rd_shared_book.proofs.book.make_seats.Given as goal

abbrev pub invariant-seats : goal.invariant-seats
invariant-seats g l = l.made.items ≡ new_seats l.number
