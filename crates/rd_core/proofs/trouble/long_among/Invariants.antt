use Rattle.std.proofs.Common.{◌≡◌, drop, length}
use Rattle.std.specs.Prelude.{nat_lt}
use Rattle.rd_rules.specs.Trouble.{least_open}
use Rattle.rd_base.specs.declared.values.Ending.TheVariants as ending
use Rattle.rd_core.proofs.trouble.long_among.Given as goal

abbrev pub invariant-loop-one : goal.invariant-loop-one
invariant-loop-one l = least_open ending.TooBig (λ o. nat_lt l.most (length o.bytes)) l.opens ≡ least_open ending.TooBig (λ o. nat_lt l.most (length o.bytes)) (drop l.one-index l.opens)
