use Rattle.std.proofs.Common.{◌≡◌}
use Rattle.rd_shared_book.proofs.seat.BookSeatTokenBook.learn.Given as goal

abbrev pub invariant-loop : goal.invariant-loop
invariant-loop g l = l.self-inside.known ≡ l.initial.self-inside.known
