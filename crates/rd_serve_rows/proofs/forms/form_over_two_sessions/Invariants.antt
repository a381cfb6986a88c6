use Rattle.rd_serve_rows.proofs.forms.form_over_two_sessions.Given as goal

abbrev pub ghosts-serve_forms : goal.ghosts-serve_forms
ghosts-serve_forms g a = record { book = a.list.seen.book; seats = 33 }
