use Rattle.std.proofs.Common.{◌≡◌, set, sym, ap, ◌∙◌}
use Rattle.std.proofs.lemmas.List.{set-get_or}
use Rattle.rd_shared_book.proofs.lender.take_first.Goals as goal

pub loop-place-preserved : goal.loop-place-preserved
loop-place-preserved g c =
    let was = c.index_mut.result.now in
    let none : c.take.new.self ≡ was = c.take.ensures.after ∙ sym (sym c.take.ensures.value ∙ c.in_default.is) in
    record {
      items = ap (set c.loop-place.slots.items c.loop-place.place) (none ∙ c.index_mut.ensures.value) ∙ set-get_or c.loop-place.slots.items c.loop-place.place was ∙ c.loop-place.invariant.items;
      count = c.loop-place.invariant.count;
    }
