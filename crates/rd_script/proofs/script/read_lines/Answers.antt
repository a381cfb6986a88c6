use Rattle.std.proofs.Common.{◌≡◌, ◌-◌, ◌^◌, Some, None, ap, ◌∙◌, arith}
use Rattle.std.specs.Prelude.{min, if◌then◌else◌}
use Rattle.rd_script.specs.declared.script.ScriptRefusal.TheVariants.{BadLine}
use Rattle.rd_script.specs.Script.{read_lines, nothing_read, parts_of, with_line, words_of}
use Rattle.rd_script.proofs.Lines.{refused, taken, one_row, named}
use Rattle.rd_script.proofs.script.read_lines.Goals as goal

pub returns-then-not-branch-clause-bad_line : goal.returns-then-not-branch-clause-bad_line
returns-then-not-branch-clause-bad_line c =
    let none : with_line c.args.copies c.args.side c.lines.reading (words_of c.in-Some.line.now) ≡ None = c.in_ok-read_line.ensures ∙ ap (λ good. if good then Some c.read_line.new.reading else None) c.if-not-branch.true in
    let bad = c.lines.invariant.reads ∙ refused c.args.copies c.args.side c.lines.number c.lines.reading c.in-Some.line.now c.lines.rest.now c.in-Some.more.now c.in-Some.ensures.cut none in
    λ number same. named (read_lines c.args.copies c.args.side 2 nothing_read (parts_of c.args.text.now)) c.lines.number number bad (let is : BadLine (min c.lines.number (2 ^ 32 - 1)) ≡ BadLine number = cc in cc)

pub lines-preserved : goal.lines-preserved
lines-preserved c =
    let some : with_line c.args.copies c.args.side c.lines.reading (words_of c.in-Some.line.now) ≡ Some c.read_line.new.reading = c.in_ok-read_line.ensures ∙ ap (λ good. if good then Some c.read_line.new.reading else None) c.if-not-branch.false in
    record {
      reads = c.lines.invariant.reads ∙ taken c.args.copies c.args.side c.lines.number c.lines.reading c.read_line.new.reading c.in-Some.line.now c.lines.rest.now c.in-Some.more.now c.in-Some.ensures.cut some;
      numbered = omega (arith, c.lines.invariant.numbered, c.in-Some.ensures.shorter);
      waits = omega (arith, c.lines.invariant.waits, one_row c.args.copies c.args.side c.lines.reading c.read_line.new.reading (words_of c.in-Some.line.now) some);
    }
