use Rattle.std.proofs.Common.{◌≡◌, ◌-◌}
use Rattle.rd_base.specs.Verdicts.{verdict, verdict_from, masked_below, longest}
use Rattle.rd_verdict.proofs.judging.judge_lists.Given as goal

abbrev pub invariant-loop-place : goal.invariant-loop-place
invariant-loop-place l = record {
  rest : verdict l.most l.lists ≡ verdict_from l.most l.lists l.place (l.places - l.place);
  masks : l.mask ≡ masked_below l.lists l.place;
  places : l.places ≡ longest l.lists;
}
