use Rattle.std.proofs.Common.{◌≡◌, ◌≤◌, vec_len, vec_capacity}
use Rattle.rd_net_edge.specs.Made.{AreMade}
use Rattle.rd_net_edge.proofs.ends.make_ends.Given as goal

abbrev pub invariant-loop-stream : goal.invariant-loop-stream
invariant-loop-stream g l =
    AreMade l.number l.link l.sources.items l.sinks.items
    × (vec_len l.sources ≡ l.link) × (vec_len l.sinks ≡ l.link) × (9 ≤ vec_capacity l.sources) × (9 ≤ vec_capacity l.sinks) × (l.link ≤ 9)
