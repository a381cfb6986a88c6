use Rattle.std.proofs.Common.{◌≡◌, subst, sym}
use Rattle.std.specs.Prelude.{IfSome}
use Rattle.rd_base.specs.declared.values.Side.TheVariants.{Outgoing}
use Rattle.rd_rules.specs.Exchange.{Rules}
use Rattle.rd_rules.specs.Wait.{wait, due_moment}
use Rattle.rd_core.proofs.Faces.{rules_in, at_in}
use Rattle.rd_out_core.proofs.out_session.OutSession.due.Goals as goal

pub returns-clause-due : goal.returns-clause-due
returns-clause-due g c = λ h at.
    subst (λ (r : Rules). IfSome c.due.result (λ d. (d.0 ≡ due_moment r h) × (d.1 ≡ (wait r h).which)))
    (sym (rules_in Outgoing g.D.Dialect.grammar c.self.inside.session c.self.invariant c.args.self.now c.self.view_is))
    (c.due.ensures.due h (at_in Outgoing g.D.Dialect.grammar c.self.inside.session c.self.invariant c.args.self.now c.self.view_is h at))
