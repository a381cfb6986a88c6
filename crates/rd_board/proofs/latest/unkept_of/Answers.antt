use Rattle.std.proofs.Common.{◌<◌, length, sym, ◌∙◌, arith}
use Rattle.rd_board.specs.Notes.{is_unkept_of}
use Rattle.rd_board.proofs.Firsts.{passed_at, failed_at, past_all}
use Rattle.rd_board.proofs.latest.unkept_of.Goals as goal

pub returns-then-is_it : goal.returns-then-is_it
returns-then-is_it c =
    let len = c.len-place-end.ensures.len in
    let lt : c.notes.place < length c.args.notes.now.items = omega (arith, c.notes-test.true) in
    sym (passed_at (is_unkept_of c.args.id) c.args.notes.now.items c.notes.place lt c.notes.invariant (sym c.is_unkept_of_at-is_it.ensures ∙ c.if-is_it.true))

pub notes-preserved : goal.notes-preserved
notes-preserved c =
    let len = c.len-place-end.ensures.len in
    let lt : c.notes.place < length c.args.notes.now.items = omega (arith, c.notes-test.true) in
    failed_at (is_unkept_of c.args.id) c.args.notes.now.items c.notes.place lt c.notes.invariant (sym c.is_unkept_of_at-is_it.ensures ∙ c.if-is_it.false)

pub returns : goal.returns
returns c =
    past_all (is_unkept_of c.args.id) c.args.notes.now.items c.len.result c.len.ensures.len (omega (arith, c.len.ensures.len, c.len-place-end.ensures.len, c.notes.invariant, c.notes-test.false))
