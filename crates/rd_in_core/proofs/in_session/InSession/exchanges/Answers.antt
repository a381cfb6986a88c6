use Rattle.std.proofs.Common.{ap, sym, ◌∙◌}
use Rattle.rd_base.specs.declared.values.Side.TheVariants.{Incoming}
use Rattle.rd_rules.specs.Sent.{exchanges}
use Rattle.rd_core.proofs.Faces.{rules_in, at_in}
use Rattle.rd_in_core.proofs.in_session.InSession.exchanges.Goals as goal

pub returns : goal.returns
returns g c = λ h at.
    c.exchanges.ensures h (at_in Incoming g.D.Dialect.grammar c.self.inside.session c.self.invariant c.args.self.now c.self.view_is h at)
    ∙ sym (ap (λ r. exchanges r h) (rules_in Incoming g.D.Dialect.grammar c.self.inside.session c.self.invariant c.args.self.now c.self.view_is))
