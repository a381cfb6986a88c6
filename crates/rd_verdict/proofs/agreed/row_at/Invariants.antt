use Rattle.std.proofs.Common.{◌≡◌, ◌+◌, [], length, drop}
use Rattle.rd_base.specs.Verdicts.{texts_at}
use Rattle.rd_verdict.proofs.RowMade.{row_with}
use Rattle.rd_verdict.proofs.agreed.row_at.Given as goal

abbrev pub invariant-loop-list : goal.invariant-loop-list
invariant-loop-list l = record {
  rest : row_with [] (texts_at l.lists l.place) ≡ row_with l.row (texts_at (drop l.list-index l.list-items) l.place);
  size : length l.row ≡ l.list-index + 1;
}
