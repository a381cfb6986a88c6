use Rattle.rd_run_session.proofs.Answered.{learnt_or_same}
use Rattle.rd_run_session.proofs.asked_book.AskedBookTokenBook.learn.Goals as goal

pub invariant_of-self : goal.invariant_of-self
invariant_of-self g c =
    learnt_or_same g.B.LentBook.told g.J.Beginning.began c.self.inside.book c.learn.new.self c.args.row.now c.learn.result c.self.invariant c.learn.ensures.told c.learn.ensures.err
