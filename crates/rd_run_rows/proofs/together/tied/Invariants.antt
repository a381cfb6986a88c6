use Rattle.std.proofs.Common.{◌≡◌, length, vec_len}
use Rattle.rd_run_rows.proofs.together.tied.Given as goal

abbrev pub invariant-loop-source : goal.invariant-loop-source
invariant-loop-source g l = vec_len l.all ≡ length l.yielded
