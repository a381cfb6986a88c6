use Rattle.rddr.proofs.serving.serve_by.Given as goal

abbrev pub ghosts-serve_with : goal.ghosts-serve_with
ghosts-serve_with g a = record { book = a.list.seen.book; seats = 33 }
