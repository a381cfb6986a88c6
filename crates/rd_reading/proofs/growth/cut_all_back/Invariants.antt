use Rattle.std.proofs.Common.{◌≡◌, drop, take, length}
use Rattle.rd_reading.specs.Extents.{all_cut_back}
use Rattle.rd_reading.proofs.growth.cut_all_back.Given as goal

abbrev pub invariant-loop-place : goal.invariant-loop-place
invariant-loop-place l = record {
  cut : take l.place l.opens.items ≡ all_cut_back (take l.place l.extents) (take l.place l.fn.opens.items);
  rest : drop l.place l.opens.items ≡ drop l.place l.fn.opens.items;
  count : length l.opens.items ≡ length l.fn.opens.items;
}
