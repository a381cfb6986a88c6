use Rattle.std.proofs.Common.{◌≡◌, ◌++◌, drop, map}
use Rattle.rd_rules.specs.Exchange.{empty_unit}
use Rattle.rd_reading.proofs.opens.empty_units.Given as goal

abbrev pub invariant-loop-one : goal.invariant-loop-one
invariant-loop-one l = l.units.items ++ map empty_unit (drop l.one-index l.opens) ≡ map empty_unit l.opens
