use Rattle.std.proofs.Common.{◌≡◌, drop}
use Rattle.rd_base.specs.declared.values.Ending.TheVariants as ending
use Rattle.rd_core.specs.Looks.{least_look, looks_big}
use Rattle.rd_core.proofs.trouble.big_among.Given as goal

abbrev pub invariant-loop-look : goal.invariant-loop-look
invariant-loop-look l = least_look ending.TooBig (looks_big l.most) l.looks ≡ least_look ending.TooBig (looks_big l.most) (drop l.look-index l.looks)
