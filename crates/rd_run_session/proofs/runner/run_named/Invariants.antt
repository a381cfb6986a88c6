use Rattle.rd_run_session.proofs.runner.run_named.Given as goal

abbrev pub ghosts-run_by : goal.ghosts-run_by
ghosts-run_by g a = record { began = g.B.LentBook.told a.book }

abbrev pub ghosts-run_by-2 : goal.ghosts-run_by-2
ghosts-run_by-2 g a = record { began = g.B.LentBook.told a.book }

abbrev pub ghosts-run_by-3 : goal.ghosts-run_by-3
ghosts-run_by-3 g a = record { began = g.B.LentBook.told a.book }
