use Rattle.std.proofs.Common.{◌≡◌, ap₂, ◌∙◌}
use Rattle.rd_reading.specs.Extents.{all_cut_back}
use Rattle.rd_reading.proofs.CutBack.{all_back}
use Rattle.rd_reading.proofs.growth.grow_front.Goals as goal

pub returns-in-Err-clause-err : goal.returns-in-Err-clause-err
returns-in-Err-clause-err c =
    let old = c.args.front.now.asking.opens.items in
    let asking : c.cut_links_back.new.links.opens.items ≡ old =
    c.cut_links_back.ensures ∙ ap₂ all_cut_back (c.as_slice.ensures.value ∙ c.in_ok-asking.ensures.extents) c.in_ok-asking.ensures.ok ∙ all_back c.args.what.now old in
    ap₂ (λ xs ys. record { phase = c.args.front.now.phase; asking = xs; answering = ys }) asking c.in-Err.ensures.err
