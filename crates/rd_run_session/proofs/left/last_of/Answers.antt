use Rattle.std.proofs.Common.{◌≡◌, ℕ, ◌+◌, ◌-◌, length, arith}
use Rattle.rd_run_session.proofs.Asked.{last_at}
use Rattle.rd_run_session.proofs.left.last_of.Goals as goal

pub returns-in-Some : goal.returns-in-Some
returns-in-Some g c = last_at c.args.log.now.entries c.at.result c.in-Some.place (grind (arith, c.len.ensures, c.checked_sub.ensures, c.in-Some.is)) c.at.ensures
