use Rattle.std.proofs.Common.{◌≡◌, map, drop, take, length}
use Rattle.rd_rules.specs.Step.{grow_by}
use Rattle.rd_reading.proofs.growth.grow_all.Given as goal

abbrev pub invariant-loop-place : goal.invariant-loop-place
invariant-loop-place l = record {
  grown : take l.place l.opens.items ≡ map (grow_by l.what) (take l.place l.fn.opens.items);
  rest : drop l.place l.opens.items ≡ drop l.place l.fn.opens.items;
  count : length l.opens.items ≡ length l.fn.opens.items;
}
