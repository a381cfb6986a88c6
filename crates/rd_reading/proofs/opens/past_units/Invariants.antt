use Rattle.std.proofs.Common.{◌≡◌, ◌++◌, drop}
use Rattle.rd_rules.specs.Exchange.{past}
use Rattle.rd_reading.proofs.opens.past_units.Given as goal

abbrev pub invariant-loop-one : goal.invariant-loop-one
invariant-loop-one l = l.made.items ++ past (drop l.one-index l.opens) l.rest ≡ past l.opens l.units
