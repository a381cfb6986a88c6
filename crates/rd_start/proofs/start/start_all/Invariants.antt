use Rattle.std.proofs.Common.{◌≡◌, ◌≤◌, ◌+◌, ◌++◌, map, length, vec_len, vec_capacity, [], true}
use Rattle.rd_start.specs.Spawners.{AllStarted}
use Rattle.rd_start.proofs.start.start_all.Given as goal

abbrev pub invariant-loop-source : goal.invariant-loop-source
invariant-loop-source g l = record {
  sources : map (λ r. r.0) l.readings.items ++ map (λ n. n.source) l.unread.items ≡ l.yielded;
  passes : map (λ r. r.1) l.readings.items ++ map (λ n. n.pass) l.unread.items ++ l.passes ≡ l.fn.passes;
  count : vec_len l.readings + vec_len l.unread ≡ length l.yielded;
  left : length l.yielded + length l.passes ≡ length l.fn.passes;
  room : vec_len l.fn.sources ≤ vec_capacity l.readings;
  room_unread : vec_len l.fn.sources ≤ vec_capacity l.unread;
  counts : AllStarted l.goes_on (g.P.Spawner.tells l.fn.spawner).refusals (g.P.Spawner.tells l.spawner).refusals;
  all : l.goes_on ≡ true → l.unread.items ≡ [];
}
