use Rattle.std.proofs.Common.{◌≡◌, ◌≤◌, ◌*◌, length}
use Rattle.std.specs.List.{flat_map}
use Rattle.rd_base.specs.Words.{below}
use Rattle.rd_script.specs.Generator.{drawn, exchange_at}
use Rattle.rd_script.specs.Seen.{entries_in}
use Rattle.rd_script.proofs.generator.generate.Given as goal

abbrev pub invariant-loop-place : goal.invariant-loop-place
invariant-loop-place l = record {
  made : entries_in l.steps.items ≡ flat_map (exchange_at l.copies l.number) (below l.place);
  shown : l.drawn ≡ drawn l.number l.place;
  few : length l.steps.items ≤ 17 * l.place;
}
