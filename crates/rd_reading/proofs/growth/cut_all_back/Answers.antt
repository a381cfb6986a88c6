use Rattle.std.proofs.Common.{◌≡◌, ◌++◌, ◌∷◌, [], ◌<◌, length, take, get_or, length-take, false, sym, ap, ap₂, ◌∙◌, arith}
use Rattle.std.proofs.lemmas.List.{take_more, length-set}
use Rattle.rd_reading.specs.Extents.{cut_back, all_cut_back}
use Rattle.rd_reading.proofs.CutBack.{cut_more, same_at, same_behind, written}
use Rattle.rd_reading.proofs.growth.cut_all_back.Goals as goal

pub loop-place-preserved : goal.loop-place-preserved
loop-place-preserved c =
    let i = c.loop-place.place in
    let opens = c.loop-place.opens.items in
    let old = c.args.opens.now.items in
    let extents = c.args.extents.now in
    let o = c.index_mut.result.now in
    let e = get_or extents i (record { len = 0; is_ended = false }) in
    let below : i < length extents = c.loop-place-test.true in
    let lt : i < length opens = omega (arith, below, c.loop-place.invariant.count, c.requires) in
    let there : i < length old = omega (arith, below, c.requires) in
    let is : get_or old i o ≡ o = sym (same_at opens old i o lt c.loop-place.invariant.count c.loop-place.invariant.rest) ∙ sym c.index_mut.ensures.value in
    let cut : c.cut_back.new.self ≡ cut_back e (get_or old i o) = c.cut_back.ensures ∙ ap (cut_back e) (sym is) in
    let size : length (take i extents) ≡ length (take i old) = rw (length-take i extents, length-take i old) (omega (arith, below, there)) in
    record {
      cut = written opens (all_cut_back (take i extents) (take i old)) i c.cut_back.new.self lt c.loop-place.invariant.cut
          ∙ ap (λ x. all_cut_back (take i extents) (take i old) ++ x ∷ []) cut
          ∙ sym (cut_more (take i extents) (take i old) e (get_or old i o) size)
          ∙ ap₂ all_cut_back (sym (take_more extents i _ below)) (sym (take_more old i o there));
      rest = same_behind opens old i c.cut_back.new.self lt c.loop-place.invariant.count c.loop-place.invariant.rest;
      count = length-set opens i c.cut_back.new.self ∙ c.loop-place.invariant.count;
    }
