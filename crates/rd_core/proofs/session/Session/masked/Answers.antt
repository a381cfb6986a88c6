use Rattle.std.proofs.Common.{◌≡◌, ◌≤◌, ◌*◌, ap, ◌∙◌, arith}
use Rattle.rd_rules.specs.Sent.{acted, masked}
use Rattle.rd_reading.specs.Seen.{rules_of}
use Rattle.rd_reading.proofs.FewMasks.{few_masked}
use Rattle.rd_core.proofs.session.Session.masked.Goals as goal

pub returns : goal.returns
returns g c = λ h at.
    let now = c.args.self.now in
    let rules = rules_of (g.D.Dialect.grammar now.dialect) now.setup in
    let sum : c.self.inside.masked ≡ masked rules h = ap (λ s. s.tally.masked) c.self.view_is ∙ ap (λ t. t.masked) at.tally in
    let setup = ap (λ s. s.setup) c.self.view_is in
    let places = ap (λ s. s.setup.limits.mask.places) c.self.view_is in
    let most = ap (λ s. s.setup.limits.exchanges_max) c.self.view_is in
    let few : masked rules h ≤ now.setup.limits.exchanges_max * 64 = few_masked rules (acted rules h) (omega (arith, places, c.self.invariant.limits.mask.places)) in
    omega (arith, c.min.ensures, c.from.ensures, sum, few, most, c.self.invariant.limits.most_exchanges)
