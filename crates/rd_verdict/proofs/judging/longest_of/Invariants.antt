use Rattle.std.proofs.Common.{◌≡◌, ◌<◌, ◌^◌, max, drop}
use Rattle.rd_base.specs.Verdicts.{longest}
use Rattle.rd_verdict.proofs.judging.longest_of.Given as goal

abbrev pub invariant-loop-list : goal.invariant-loop-list
invariant-loop-list l = record {
  longest : longest l.lists ≡ max l.most (longest (drop l.list-index l.lists));
  most : l.most < 2 ^ 32;
}
