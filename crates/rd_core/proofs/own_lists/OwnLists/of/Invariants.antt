use Rattle.std.proofs.Common.{◌≡◌, ◌++◌, drop}
use Rattle.rd_core.specs.OwnLists.{last_own, owns_after}
use Rattle.rd_core.proofs.own_lists.OwnLists.of.Given as goal

abbrev pub invariant-loop-exchange : goal.invariant-loop-exchange
invariant-loop-exchange l = record {
  own : l.lists.own ≡ l.own;
  after : l.lists.after ++ owns_after (last_own l.lists) (drop l.exchange-index l.done) ≡ owns_after l.own l.done;
}
