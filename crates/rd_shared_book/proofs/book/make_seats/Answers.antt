use Rattle.std.proofs.Common.{◌∷◌, [], ◌++◌, ◌∙◌, sym, ap}
use Rattle.rd_lent_book.specs.Seats.{new_seat}
use Rattle.rd_shared_book.proofs.Telling.{new_seats-more}
use Rattle.rd_shared_book.proofs.book.make_seats.Goals as goal

pub seats-preserved : goal.seats-preserved
seats-preserved g c =
    let made = c.seats.made.items in
    c.in_ok-push.ensures.items
    ∙ ap (λ seat. made ++ seat ∷ []) (c.new-seat.ensures ∙ c.new-known.ensures)
    ∙ ap (λ seats. seats ++ new_seat c.seats.number ∷ []) c.seats.invariant
    ∙ sym (new_seats-more c.seats.number)
