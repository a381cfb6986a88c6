use Rattle.rd_shared_book.proofs.tests.a_row_goes_to_the_other_seat.Given as goal

abbrev pub ghosts-two_seats : goal.ghosts-two_seats
ghosts-two_seats g a = record { book = a.list.seen.book; seats = 2 }
