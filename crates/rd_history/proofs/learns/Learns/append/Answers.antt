use Rattle.std.proofs.Common.{sym, ◌∙◌, ap}
use Rattle.rd_history.specs.Learns.{entry}
use Rattle.rd_history.proofs.Appending.{append_moves}
use Rattle.rd_history.proofs.learns.Learns.append.Goals as goal

pub compare_exchange-found-requires : goal.compare_exchange-found-requires
compare_exchange-found-requires g c =
    let h = c.args.shared.now.length_is in
    let offer = c.plain-offer.ensures in
    let pen = c.no_pen-pen.ensures in
    let again = c.again-seen.ensures in
    let learnt = c.args.learnt.now in (
      ap (λ w. w.tracked) h,
      ap (λ s. s.book) again ∙ (c.self.invariant.1 ∙ sym (ap (λ w. w.book) h)),
      pen.0 ∙ (c.self.invariant.1 ∙ sym (ap (λ w. w.book) h)),
      offer.0 ∙ sym (ap (λ s. s.names) again),
      rw (again, ap (λ w. w.key) h, pen.1, offer.1, offer.3) (append_moves c.self.inside.seen.log (entry learnt.seat learnt.number learnt.row.now) c.self.inside.len (sym c.self.invariant.0)),
    )
