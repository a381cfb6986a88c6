use Rattle.std.proofs.Common.{sym, ◌∙◌, ap}
use Rattle.rd_history.proofs.Appending.{append_moves}
use Rattle.rd_history.proofs.calls.Calls.append.Goals as goal

pub compare_exchange-found-requires : goal.compare_exchange-found-requires
compare_exchange-found-requires g c =
    let h = c.self.invariant.1 in
    let offer = c.plain-offer.ensures in
    let pen = c.no_pen-pen.ensures in
    let again = c.again-seen.ensures in (
      ap (λ w. w.tracked) h,
      ap (λ s. s.book) again ∙ sym (ap (λ w. w.book) h),
      pen.0 ∙ sym (ap (λ w. w.book) h),
      offer.0 ∙ sym (ap (λ s. s.names) again),
      rw (again, ap (λ w. w.key) h, pen.1, offer.1, offer.3 ∙ c.requires) (append_moves c.self.inside.seen.log (g.M.Plain.ask c.args.told.now) c.self.inside.len (sym c.self.invariant.0)),
    )
