use Rattle.std.proofs.Common.{◌≤◌, ◌-◌, length}
use Rattle.std.specs.List.{All}
use Rattle.rd_verdict.specs.LiesIn.{LiesIn}
use Rattle.rd_stream_rows.proofs.verdicts.cut_words.Given as goal

abbrev pub invariant-loop-start : goal.invariant-loop-start
invariant-loop-start l = record {
  within : All (LiesIn (length l.text)) l.spans;
  count : length l.spans ≤ l.start;
  start : l.start ≤ length l.text;
}

abbrev pub decreases-loop-start : goal.decreases-loop-start
decreases-loop-start l = length l.text - l.start
