use Rattle.std.proofs.Common.{◌≡◌, map, take}
use Rattle.arrayvec.specs.ArrayVec.{array_vec_len}
use Rattle.rd_reading.specs.Looks.{look_of}
use Rattle.rd_reading.proofs.looks.look_again.Given as goal

abbrev pub invariant-loop-place : goal.invariant-loop-place
invariant-loop-place g l = record {
  items : l.looks.items ≡ map (look_of (g.D.Dialect.grammar l.dialect) l.due) (take l.place l.opens);
  count : array_vec_len l.looks ≡ l.place;
}
