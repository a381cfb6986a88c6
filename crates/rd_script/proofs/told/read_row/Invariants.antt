use Rattle.std.proofs.Common.{◌≡◌, ◌+◌, ◌-◌, length}
use Rattle.rd_script.specs.Script.{words_of, row_of_words}
use Rattle.rd_script.proofs.ToldRows.{behind}
use Rattle.rd_script.proofs.told.read_row.Given as goal

abbrev pub invariant-loop-copy : goal.invariant-loop-copy
invariant-loop-copy l = record {
  reads : row_of_words l.copies (words_of l.words) ≡ behind l.row (row_of_words (l.copies + 1 - l.copy) (words_of l.rest));
  count : length l.row + 1 ≡ l.copy;
}
