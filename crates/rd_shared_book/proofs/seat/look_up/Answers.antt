use Rattle.std.proofs.Common.{refl}
use Rattle.rd_lent_book.specs.Books.{book_after}
use Rattle.rd_shared_book.proofs.Telling.{found_told, found_is_fresh}
use Rattle.rd_shared_book.proofs.seat.look_up.Goals as goal

pub returns-clause-told : goal.returns-clause-told
returns-clause-told g c =
    let shelf = c.deref-shelf.result.now in
    rw (c.found.ensures, c.see.ensures) (found_told c.args.word.now (book_after shelf) c.find-answer.result c.args.known.now.calls c.find-answer.ensures)

pub returns-clause-fresh : goal.returns-clause-fresh
returns-clause-fresh g c =
    let shelf = c.deref-shelf.result.now in
    rw (c.found.ensures, c.see.ensures, c.learns.ensures.is)
    (found_is_fresh g.J.Naming.seats c.args.known.now shelf c.args.word.now c.find-answer.result (c.if-not-agrees.ensures refl))
