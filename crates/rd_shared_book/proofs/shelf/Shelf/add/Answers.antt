use Rattle.std.proofs.Common.{length, refl, ap, arith, length-append, ◌∷◌, []}
use Rattle.rd_shared_book.proofs.Appended.{of_seat-fewer}
use Rattle.rd_shared_book.proofs.Learning.{counted_at, book-more}
use Rattle.rd_shared_book.proofs.shelf.Shelf.add.Goals as goal

pub overflow_add-index_mut : goal.overflow_add-index_mut
overflow_add-index_mut g c =
    let s = c.self.inside in
    let a = c.addition.inside in
    let count = counted_at g.J.Naming.seats a.seat c.index_mut.result.now s.counts.items s.learns c.self.invariant.counted c.addition.invariant.below c.index_mut.ensures.value in
    let next = c.if-not-is_next.ensures.next refl in
    omega (arith, count, of_seat-fewer a.seat s.learns, ap length next.1, length-append s.learns (next.0 ∷ []), c.is_next.ensures.fits)

pub invariant_of-self-2 : goal.invariant_of-self-2
invariant_of-self-2 g c =
    let s = c.self.inside in
    let a = c.addition.inside in
    let seats = g.J.Naming.seats in
    let count = counted_at seats a.seat c.index_mut.result.now s.counts.items s.learns c.self.invariant.counted c.addition.invariant.below c.index_mut.ensures.value in
    let next = c.if-not-is_next.ensures.next refl in
    rw (c.in_ok-learn.ensures.ok, c.again.ensures)
    (book-more seats a.seat c.index_mut.result.now a.row s.rows s.counts.items s.learns a.after c.self.invariant next.0 next.1 c.addition.invariant count)
