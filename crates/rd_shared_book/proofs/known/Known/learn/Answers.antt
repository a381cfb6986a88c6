use Rattle.std.proofs.Common.{◌≡◌, ◌∷◌, [], ◌++◌, ◌∙◌, refl, sym, ap, subst, length, arith}
use Rattle.rd_token_map.specs.BookCalls.{Learned}
use Rattle.rd_history.specs.Learns.{entry}
use Rattle.rd_lent_book.specs.Seats.{SeatView, IsFresh, learned}
use Rattle.rd_shared_book.proofs.Appended.{of_seat-fewer, length-learns_by}
use Rattle.rd_shared_book.proofs.Telling.{seat_with, learned_is_fresh, learned-count}
use Rattle.rd_shared_book.proofs.known.Known.learn.Goals as goal

pub overflow_add-self : goal.overflow_add-self
overflow_add-self g c =
    let k = c.self.inside in
    let shelf = c.args.shelf.now in
    let fresh = c.if-not-agrees.ensures refl in
    let holds = subst (λ (s : SeatView). IsFresh g.J.Naming.seats s (record s { learns = shelf })) (sym c.self.view_is) fresh in
    let many = ap length holds.holds.own ∙ length-learns_by k.number (learned k.calls) in
    omega (arith, c.self.invariant.1, many, of_seat-fewer k.number shelf, c.len.ensures ∙ ap length c.learns-learns.ensures.is, c.if-len-ge-MOST_LEARNS.false)

pub invariant_of-self : goal.invariant_of-self
invariant_of-self g c =
    let k = c.self.inside in
    let shelf = c.args.shelf.now in
    let row = c.args.row.now in
    let fresh = subst (λ (s : SeatView). IsFresh g.J.Naming.seats s (record s { learns = shelf })) (sym c.self.view_is) (c.if-not-agrees.ensures refl) in
    let list : c.again.result ≡ shelf ++ entry k.number k.learnt row ∷ [] = c.again.ensures ∙ c.if-not-append.ensures ∙ ap (λ ls. ls ++ entry k.number k.learnt row ∷ []) c.learns-learns.ensures.is in
    rw (list, c.learned.ensures) (
      (learned_is_fresh g.J.Naming.seats k.learnt (seat_with k.number k.learns k.calls) shelf row fresh c.self.invariant.1).holds,
      learned-count k.calls row k.learnt c.self.invariant.1,
    )

pub returns-clause-some : goal.returns-clause-some
returns-clause-some g c =
    let k = c.self.inside in
    let shelf = c.args.shelf.now in
    let row = c.args.row.now in
    let fresh = subst (λ (s : SeatView). IsFresh g.J.Naming.seats s (record s { learns = shelf })) (sym c.self.view_is) (c.if-not-agrees.ensures refl) in
    let list : c.again.result ≡ shelf ++ entry k.number k.learnt row ∷ [] = c.again.ensures ∙ c.if-not-append.ensures ∙ ap (λ ls. ls ++ entry k.number k.learnt row ∷ []) c.learns-learns.ensures.is in
    let is_fresh = learned_is_fresh g.J.Naming.seats k.learnt (seat_with k.number k.learns k.calls) shelf row fresh c.self.invariant.1 in (
      rw (← c.self.view_is, list, c.learned.ensures) is_fresh,
      c.again.ensures,
      c.learned.ensures ∙ ap (λ (s : SeatView). s.calls ++ Learned row ∷ []) c.self.view_is,
    )
