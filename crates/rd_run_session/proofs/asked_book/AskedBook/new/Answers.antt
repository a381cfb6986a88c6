use Rattle.std.proofs.Common.{sym, subst}
use Rattle.rd_lent_book.specs.Lending.{Asked, Moves}
use Rattle.rd_run_session.proofs.Answered.{unasked_book}
use Rattle.rd_run_session.proofs.asked_book.AskedBook.new.Goals as goal

pub invariant_of-result : goal.invariant_of-result
invariant_of-result g c = subst (λ told. Moves Asked told (g.B.LentBook.told c.args.book)) (sym c.requires) (unasked_book (g.B.LentBook.told c.args.book))
