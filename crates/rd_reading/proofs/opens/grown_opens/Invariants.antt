use Rattle.std.proofs.Common.{◌≡◌, ◌++◌, drop, map}
use Rattle.rd_rules.specs.Step.{grow_by}
use Rattle.rd_reading.proofs.opens.grown_opens.Given as goal

abbrev pub invariant-loop-one : goal.invariant-loop-one
invariant-loop-one l = l.made.items ++ map (grow_by l.what) (drop l.one-index l.opens) ≡ map (grow_by l.what) l.opens
