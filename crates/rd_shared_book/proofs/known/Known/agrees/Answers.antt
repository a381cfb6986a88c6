use Rattle.std.proofs.Common.{refl, sym, ◌∙◌, subst, length}
use Rattle.std.proofs.lemmas.Bool.{eqb-true}
use mathlib.Core.List.{IsPrefix}
use Rattle.rd_history.specs.Learns.{of_seat}
use Rattle.rd_shared_book.proofs.Telling.{agrees_is_fresh}
use Rattle.rd_shared_book.proofs.known.Known.agrees.Goals as goal

pub returns-then-begins : goal.returns-then-begins
returns-then-begins g c told =
    let k = c.self.inside in
    let after = c.args.shelf.now in
    let goes_on = subst (λ ls. IsPrefix k.learns ls) c.learns.ensures.is (c.if-begins.ensures refl) in
    let many = eqb-true (length (of_seat k.number after)) k.learnt (sym c.has_learns.ensures ∙ told) in
    rw (← c.self.view_is) (agrees_is_fresh g.J.Naming.seats k.number k.learnt k.learns after k.calls c.self.invariant.0 c.self.invariant.1 goes_on many c.learns.ensures.below)
