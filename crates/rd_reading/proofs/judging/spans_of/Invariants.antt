use Rattle.std.proofs.Common.{◌≡◌, ◌++◌, map, length}
use Rattle.std.specs.Prelude.{All}
use Rattle.rd_base.specs.Token.{token_of}
use Rattle.rd_verdict.specs.LiesIn.{LiesIn}
use Rattle.rd_reading.specs.Heard.{left_due}
use Rattle.rd_reading.proofs.judging.spans_of.Given as goal

abbrev pub invariant-loop-span : goal.invariant-loop-span
invariant-loop-span g l =
    let grammar = g.D.Dialect.grammar l.dialect in
    record {
      tokens : left_due grammar l.due l.flat l.whole ≡ map (token_of l.flat) l.spans ++ grammar.left l.due.part l.due.phase l.due.note l.flat l.whole l.cursor;
      within : All (LiesIn (length l.flat)) l.spans;
    }

abbrev pub decreases-loop-span : goal.decreases-loop-span
decreases-loop-span g l = length ((g.D.Dialect.grammar l.dialect).left l.due.part l.due.phase l.due.note l.flat l.whole l.cursor)
