use Rattle.std.proofs.Common.{[]}
use Rattle.rd_base.specs.declared.values.Side.TheVariants.{Incoming}
use Rattle.rd_core.specs.Clocks.{entry_of}
use Rattle.rd_core.proofs.Faces.{wanted_in}
use Rattle.rd_in_core.proofs.in_session.InSession.wanted.Goals as goal

pub returns : goal.returns
returns g c =
    wanted_in Incoming g.D.Dialect.grammar c.self.inside.session c.self.invariant c.args.self.now c.self.view_is (entry_of c.args.happening.now []) c.wanted.result c.wanted.ensures
