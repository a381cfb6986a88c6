use Rattle.std.proofs.Common.{[], List, subst}
use Rattle.std.specs.Prelude.{OnOk}
use Rattle.rd_base.specs.History.{Row}
use Rattle.rd_base.specs.declared.values.Side.TheVariants.{Outgoing}
use Rattle.rd_core.specs.Clocks.{entry_of}
use Rattle.rd_core.proofs.Faces.{Adds, adds_in}
use Rattle.rd_out_core.proofs.out_session.OutSession.take.Goals as goal

pub returns-clause-adds : goal.returns-clause-adds
returns-clause-adds g c =
    subst (λ (told : List Row). OnOk c.take.result (Adds Outgoing g.D.Dialect.grammar c.self.inside.session c.self.invariant c.args.self.now (entry_of c.args.happening.now told))) c.new-none.ensures
    (adds_in Outgoing g.D.Dialect.grammar c.self.inside.session c.self.invariant c.args.self.now c.self.view_is (entry_of c.args.happening.now c.new-none.result) c.take.result c.take.ensures.sent)
