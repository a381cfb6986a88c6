use Rattle.std.proofs.Common.{◌≡◌, ◌+◌, ◌-◌, ◌≤◌, ap, subst, arith, length, List}
use Rattle.std.proofs.lemmas.Bool.{eqb-true}
use mathlib.Core.List.{IsPrefix}
use Rattle.rd_history.specs.declared.learn.Learn.{Learn}
use Rattle.rd_history.proofs.Beginnings.{prefix_shorter, prefix_next}
use Rattle.rd_history.proofs.learns.Learns.is_next.Goals as goal

pub returns-clause-next : goal.returns-clause-next
returns-clause-next g c told =
    let both = c.learn.new.self.log in
    let this : IsPrefix c.self.inside.seen.log both = subst (λ (l : List Learn). IsPrefix l both) (ap (λ s. s.log) c.again-both.ensures) c.learn.ensures.2 in
    let less : length c.self.inside.seen.log ≤ length c.other.inside.seen.log = omega (arith, c.self.invariant.0, c.other.invariant.0) in
    let one : length c.other.inside.seen.log ≡ length c.self.inside.seen.log + 1 = omega (arith, eqb-true (c.other.inside.len - c.self.inside.len) 1 told, c.self.invariant.0, c.other.invariant.0) in
    rw (← c.self.view_is, ← c.other.view_is) (prefix_next c.self.inside.seen.log c.other.inside.seen.log (prefix_shorter c.self.inside.seen.log c.other.inside.seen.log both this c.learn.ensures.3 less) one)
