use Rattle.std.proofs.Common.{◌≡◌, vec_len}
use Rattle.rd_start.proofs.tests.sources.Given as goal

abbrev pub invariant-loop-link : goal.invariant-loop-link
invariant-loop-link l = vec_len l.sources ≡ l.link
