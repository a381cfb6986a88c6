use Rattle.std.proofs.Common.{◌≡◌, map, take}
use Rattle.arrayvec.specs.ArrayVec.{array_vec_len}
use Rattle.rd_reading.specs.Extents.{extent_of}
use Rattle.rd_reading.proofs.growth.extents_of.Given as goal

abbrev pub invariant-loop-one : goal.invariant-loop-one
invariant-loop-one l = record {
  items : l.extents.items ≡ map extent_of (take l.one-index l.opens);
  count : array_vec_len l.extents ≡ l.one-index;
}
