use Rattle.std.proofs.Common.{sym, ◌∙◌}
use Rattle.rd_start.proofs.Gates.{gates_started, gates_unread}
use Rattle.rd_start.proofs.tests.run.Goals as goal

pub close-requires-clause-gates : goal.close-requires-clause-gates
close-requires-clause-gates g c =
    gates_started (λ r. r.1) (λ n. n.pass) c.drain-counts.new.owner c.in_ok-owner.owner 4 c.start_all-all.new.readings.items c.start_all-all.new.unread.items c.start_all-all.new.passes
    (sym c.drain-counts.ensures) (c.start_all-all.ensures.passes ∙ c.in_ok-owner.ensures.1)

pub close-requires-clause-gates_unread : goal.close-requires-clause-gates_unread
close-requires-clause-gates_unread g c =
    gates_unread (λ r. r.1) (λ n. n.pass) c.drain-counts.new.owner c.in_ok-owner.owner 4 c.start_all-all.new.readings.items c.start_all-all.new.unread.items c.start_all-all.new.passes
    (sym c.drain-counts.ensures) (c.start_all-all.ensures.passes ∙ c.in_ok-owner.ensures.1)
