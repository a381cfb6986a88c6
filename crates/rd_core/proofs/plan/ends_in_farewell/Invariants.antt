use Rattle.std.proofs.Common.{◌≡◌, drop, map}
use Rattle.rd_rules.specs.Trouble.{ends_by}
use Rattle.rd_reading.specs.Seen.{seen_exchange}
use Rattle.rd_core.proofs.plan.ends_in_farewell.Given as goal

abbrev pub invariant-loop-exchange : goal.invariant-loop-exchange
invariant-loop-exchange g l = ends_by (g.D.Dialect.grammar l.dialect) l.bye (map seen_exchange (drop l.exchange-index l.done)) ≡ ends_by (g.D.Dialect.grammar l.dialect) l.before (map seen_exchange l.done)
