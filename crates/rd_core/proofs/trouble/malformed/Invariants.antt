use Rattle.std.proofs.Common.{◌≡◌, drop}
use Rattle.rd_rules.specs.Trouble.{is_bad}
use Rattle.rd_base.specs.declared.values.Ending.TheVariants as ending
use Rattle.rd_core.specs.Looks.{least_look}
use Rattle.rd_core.proofs.trouble.malformed.Given as goal

abbrev pub invariant-loop-look : goal.invariant-loop-look
invariant-loop-look l = least_look ending.Malformed (λ k. is_bad k.scan) l.looks ≡ least_look ending.Malformed (λ k. is_bad k.scan) (drop l.look-index l.looks)
