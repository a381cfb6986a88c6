use Rattle.std.proofs.Common.{◌≡◌, drop}
use Rattle.rd_base.specs.declared.values.Ending.TheVariants as ending
use Rattle.rd_core.specs.Looks.{least_look, looks_cut}
use Rattle.rd_core.proofs.trouble.cut_among.Given as goal

abbrev pub invariant-loop-look : goal.invariant-loop-look
invariant-loop-look l = least_look ending.Broken looks_cut l.looks ≡ least_look ending.Broken looks_cut (drop l.look-index l.looks)
