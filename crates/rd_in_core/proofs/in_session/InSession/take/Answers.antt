use Rattle.rd_base.specs.declared.values.Side.TheVariants.{Incoming}
use Rattle.rd_core.specs.Clocks.{entry_of}
use Rattle.rd_core.proofs.Faces.{adds_in}
use Rattle.rd_in_core.proofs.in_session.InSession.take.Goals as goal

pub returns-clause-adds : goal.returns-clause-adds
returns-clause-adds g c =
    adds_in Incoming g.D.Dialect.grammar c.self.inside.session c.self.invariant c.args.self.now c.self.view_is (entry_of c.args.happening.now c.args.told.now) c.take.result c.take.ensures.sent
