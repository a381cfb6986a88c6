use Rattle.std.proofs.Common.{◌∙◌, ap, sym, set}
use Rattle.std.proofs.lemmas.List.Edits.{map_over_more}
use Rattle.rd_stream_verdict.specs.Heads.{passed}
use Rattle.rd_stream_verdict.proofs.buffers.pass_each.Goals as goal

pub loop-copy-preserved : goal.loop-copy-preserved
loop-copy-preserved c =
    ap (set c.loop-copy.copies c.loop-copy.copy-index) (c.pass.ensures ∙ ap passed (sym c.copy-item.is))
    ∙ map_over_more passed c.args.copies.now c.loop-copy.copies c.loop-copy.copy-index c.copy-item.result c.loop-copy-test.true c.loop-copy.invariant c.copy-item.is
