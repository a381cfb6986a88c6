use Rattle.std.proofs.Common.{◌≡◌, ◌≤◌, ℕ, length, vec_len, vec_capacity, Some}
use Rattle.std.specs.Prelude.{slice_get}
use Rattle.rd_gate.specs.Gate.{Known}
use Rattle.rd_start.specs.Back.{WasRead, with_ended}
use Rattle.rd_start.proofs.start.join_all.Given as goal

abbrev pub invariant-loop-reading : goal.invariant-loop-reading
invariant-loop-reading g l = record {
  count : vec_len l.sources ≡ length l.yielded;
  room : vec_len l.fn.readings ≤ vec_capacity l.sources;
  same_room : vec_capacity l.sources ≡ vec_capacity l.fn.sources;
  gate : l.owner.gate ≡ l.fn.owner.gate;
  knows : l.owner.knows ≡ with_ended l.fn.owner.knows l.owner.knows.ended;
  backs : (k : ℕ) (r : g.row.S.Denot × Known) (s : g.row.S.Denot) → slice_get l.yielded k ≡ Some r → slice_get l.sources.items k ≡ Some s
      → WasRead g.S.Source.tells r.0 r.1 s l.owner.knows.ended;
}
