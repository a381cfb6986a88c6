use Rattle.std.proofs.Common.{◌++◌, ◌∷◌, [], ap, sym, ◌∙◌, take, arith}
use Rattle.std.proofs.lemmas.List.{take_more}
use Rattle.std.proofs.lemmas.Option.{get_or_from_slice_get}
use Rattle.rd_stream_verdict.proofs.stream.copied.Goals as goal

pub loop-index-preserved : goal.loop-index-preserved
loop-index-preserved c =
    let mask = c.args.mask.now in
    let index = c.loop-index.index in
    c.push.ensures
    ∙ ap (λ ps. ps ++ c.at.result ∷ []) c.loop-index.invariant
    ∙ ap (λ p. take index mask ++ p ∷ []) (sym (get_or_from_slice_get mask index c.at.result 0 c.at.ensures))
    ∙ sym (take_more mask index 0 (omega arith))
