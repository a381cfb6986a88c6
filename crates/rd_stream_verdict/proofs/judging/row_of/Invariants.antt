use Rattle.std.proofs.Common.{◌≡◌, ◌+◌, [], length, map, drop}
use Rattle.rd_base.specs.Verdicts.{text_or_none}
use Rattle.rd_verdict.proofs.RowMade.{row_with}
use Rattle.rd_stream_verdict.proofs.judging.row_of.Given as goal

abbrev pub invariant-loop-head : goal.invariant-loop-head
invariant-loop-head l = record {
  rest : row_with [] (map text_or_none l.heads) ≡ row_with l.row (map text_or_none (drop l.head-index l.head-items));
  size : length l.row ≡ l.head-index + 1;
}
