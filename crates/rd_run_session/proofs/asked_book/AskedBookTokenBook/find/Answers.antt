use Rattle.rd_run_session.proofs.Answered.{found_book}
use Rattle.rd_run_session.proofs.asked_book.AskedBookTokenBook.find.Goals as goal

pub invariant_of-self : goal.invariant_of-self
invariant_of-self g c =
    found_book g.J.Beginning.began (g.B.LentBook.told c.self.inside.book) (g.B.LentBook.told c.find.new.self) c.args.word.now c.find.result c.self.invariant c.find.ensures.told
