use Rattle.std.proofs.Common.{◌≡◌}
use Rattle.rd_base.specs.Sent.{sends_to}
use Rattle.rd_reading.specs.Seen.{rules_of, seen_reading}
use Rattle.rd_rules.specs.Step.{given_now}
use Rattle.rd_core.proofs.sending.sends_of.Given as goal

abbrev pub invariant-loop-link : goal.invariant-loop-link
invariant-loop-link g l = l.sends ≡ sends_to l.link (λ link. given_now (rules_of (g.D.Dialect.grammar l.dialect) l.setup) link l.lists.own l.told l.was_out (seen_reading l.reading))
