use Rattle.std.proofs.Common.{◌≡◌, ◌≤◌, ◌*◌, length, sum_by, take}
use Rattle.rd_reading.specs.Room.{room}
use Rattle.rd_core.proofs.trouble.open_len.Given as goal

abbrev pub invariant-loop-one : goal.invariant-loop-one
invariant-loop-one l = record {
  sum : l.total ≡ sum_by (λ o. length o.bytes) (take l.one-index l.opens);
  most : l.total ≤ room * l.one-index;
}
