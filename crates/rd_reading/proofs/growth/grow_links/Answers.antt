use Rattle.std.proofs.Common.{◌≡◌, map, sym, subst, ap, ap₂, ◌∙◌}
use Rattle.rd_reading.specs.Extents.{extent_of, all_cut_back}
use Rattle.rd_reading.specs.Fronts.{AreFronts}
use Rattle.rd_reading.proofs.CutBack.{all_back}
use Rattle.rd_reading.proofs.growth.grow_links.Goals as goal

pub stay_alike-links-requires-clause-fronts : goal.stay_alike-links-requires-clause-fronts
stay_alike-links-requires-clause-fronts c =
    let old = c.args.links.now.opens.items in
    let extents = c.as_slice-then-links-2.ensures.value ∙ c.extents_of-extents.ensures ∙ ap (map extent_of) c.as_slice.ensures.value in
    let back : all_cut_back c.as_slice-then-links-2.result.now c.as_slice-then-links.result.now ≡ old =
    ap₂ all_cut_back extents (c.as_slice-then-links.ensures.value ∙ c.in_ok-grow_all.ensures.ok) ∙ all_back c.args.what.now old in
    subst AreFronts (sym back) (c.args.links.now.fronts c.if-links.true)
