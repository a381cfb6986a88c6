use Rattle.std.proofs.Common.{◌≡◌, ◌++◌, drop, map}
use Rattle.std.specs.List.{flat_map}
use Rattle.rd_rules.specs.Given.{handed_back}
use Rattle.rd_reading.specs.Seen.{seen_exchange, rules_of}
use Rattle.rd_core.proofs.sending.replies_for.Given as goal

abbrev pub invariant-loop-exchange : goal.invariant-loop-exchange
invariant-loop-exchange g l =
    let given = handed_back (rules_of (g.D.Dialect.grammar l.dialect) l.setup) in
    l.bytes ++ flat_map given (map seen_exchange (drop l.exchange-index l.done)) ≡ flat_map given (map seen_exchange l.done)
