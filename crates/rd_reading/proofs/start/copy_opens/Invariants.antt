use Rattle.std.proofs.Common.{◌≡◌, map, length, []}
use Rattle.rd_base.specs.Words.{below}
use Rattle.rd_rules.specs.Exchange.{open_of}
use Rattle.rd_reading.proofs.start.copy_opens.Given as goal

abbrev pub invariant-loop-link : goal.invariant-loop-link
invariant-loop-link l = record {
  opens : l.opens.items ≡ map (open_of []) (below l.link);
  count : length l.opens.items ≡ l.link;
}
