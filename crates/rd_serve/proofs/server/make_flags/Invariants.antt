use Rattle.std.proofs.Common.{◌≡◌, ◌≤◌, vec_len, vec_capacity}
use Rattle.rd_serve.proofs.server.make_flags.Given as goal

abbrev pub invariant-loop-count : goal.invariant-loop-count
invariant-loop-count l = (vec_len l.flags ≡ l._count) × (32 ≤ vec_capacity l.flags)
