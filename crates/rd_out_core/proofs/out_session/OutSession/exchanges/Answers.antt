use Rattle.std.proofs.Common.{ap, sym, ◌∙◌}
use Rattle.rd_base.specs.declared.values.Side.TheVariants.{Outgoing}
use Rattle.rd_rules.specs.Sent.{exchanges}
use Rattle.rd_core.proofs.Faces.{rules_in, at_in}
use Rattle.rd_out_core.proofs.out_session.OutSession.exchanges.Goals as goal

pub returns : goal.returns
returns g c = λ h at.
    c.exchanges.ensures h (at_in Outgoing g.D.Dialect.grammar c.self.inside.session c.self.invariant c.args.self.now c.self.view_is h at)
    ∙ sym (ap (λ r. exchanges r h) (rules_in Outgoing g.D.Dialect.grammar c.self.inside.session c.self.invariant c.args.self.now c.self.view_is))
