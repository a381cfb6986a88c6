use Rattle.std.proofs.Common.{sym}
use Rattle.rd_reading.proofs.InFront.{judge_by-fronts}
use Rattle.rd_reading.proofs.judging.early_fault.Goals as goal

pub returns-then-have_fronts : goal.returns-then-have_fronts
returns-then-have_fronts g c =
    sym (judge_by-fronts (g.D.Dialect.grammar c.args.dialect.now) (g.met.D.Dialect.lawful c.args.dialect.now) c.args.most c.args.exchange c.args.due c.args.links.now.opens.items (c.have_fronts.ensures c.if-have_fronts.true))
