use Rattle.std.proofs.Common.{◌≡◌, ◌≤◌, ◌+◌, ◌++◌, map, fold, vec_len, vec_capacity}
use Rattle.rd_gate.specs.Gate.{joined}
use Rattle.rd_start.proofs.start.take_back.Given as goal

abbrev pub invariant-loop-back : goal.invariant-loop-back
invariant-loop-back g l = record {
  sources : l.sources.items ≡ l.fn.sources.items ++ map (λ n. n.source) l.yielded;
  gate : l.owner.gate ≡ l.fn.owner.gate;
  knows : l.owner.knows ≡ fold joined l.fn.owner.knows (map (λ n. n.pass.knows) l.yielded);
  room : vec_len l.fn.sources + vec_len l.fn.unread ≤ vec_capacity l.sources;
}
