use Rattle.std.proofs.Common.{◌≡◌, false, ap, sym, ◌∙◌}
use Rattle.std.specs.Prelude.{is_some}
use Rattle.rd_reading.specs.Seen.{rules_of}
use Rattle.rd_core.specs.Standing.{due_at, wait_at}
use Rattle.rd_core.proofs.Taken.{due_is, none_of}
use Rattle.rd_core.proofs.session.Session.due.Goals as goal

pub returns-clause-due : goal.returns-clause-due
returns-clause-due g c = λ h at.
    let now = c.args.self.now in
    let live : is_some now.ending ≡ false = sym (ap (λ v. is_some v.ending) c.self.view_is) ∙ sym c.is_some.ensures ∙ c.if-is_some.false in
    let due = due_is (rules_of (g.D.Dialect.grammar now.dialect) now.setup) now h at (none_of now.ending live) in (
      c.due_at-due.ensures ∙ ap (λ v. due_at v.setup.side v.setup.limits v.at) c.self.view_is ∙ due.0,
      c.which_at.ensures ∙ ap (λ v. (wait_at v.setup.side v.at.stage).which) c.self.view_is ∙ due.1,
    )
