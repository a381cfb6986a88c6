use Rattle.std.proofs.Common.{◌≤◌, length, subst}
use Rattle.rd_desk.proofs.At.{none_left}
use Rattle.rd_desk.proofs.desk.Desk.keep_all.Goals as goal

pub returns-clause-all : goal.returns-clause-all
returns-clause-all g c =
    none_left c.args.self.now c.keep_up_to.new.self _ _ c.keep_up_to.ensures.keeps
    (subst (λ d. length d.board.latest ≤ 10000) c.self.view_is c.self.invariant.0.long) c.in_ok-keep_up_to.ensures.all
