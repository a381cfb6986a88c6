use Rattle.rd_book_stress.proofs.main.Given as goal

abbrev pub ghosts-stress : goal.ghosts-stress
ghosts-stress g a = record { book = a.list.seen.book; seats = 33 }

abbrev pub ghosts-stay : goal.ghosts-stay
ghosts-stay g a = record { book = a.list.seen.book; seats = 33 }

abbrev pub ghosts-measure : goal.ghosts-measure
ghosts-measure g a = record { book = a.list.seen.book; seats = 33 }
