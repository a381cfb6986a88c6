use Rattle.std.proofs.Common.{◌≡◌, ◌≤◌, ◌*◌, sum_by, take}
use Rattle.rd_core.proofs.masks.in_replies.Given as goal

abbrev pub invariant-loop-exchange : goal.invariant-loop-exchange
invariant-loop-exchange l = record {
  sum : l.total ≡ sum_by (λ x. x.replies.masked) (take l.exchange-index l.done);
  most : l.total ≤ 255 * l.exchange-index;
}
