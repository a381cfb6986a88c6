use Rattle.std.proofs.Common.{◌≡◌, ◌++◌, drop}
use Rattle.rd_base.specs.Verdicts.{rows_at}
use Rattle.rd_verdict.proofs.agreed.rows_of.Given as goal

abbrev pub invariant-loop-index : goal.invariant-loop-index
invariant-loop-index l = rows_at l.copies l.mask ≡ l.rows ++ rows_at l.copies (drop l.index l.mask)
