use Rattle.std.proofs.Common.{◌∙◌, ap, sym, length, length-drop, arith}
use Rattle.std.proofs.lemmas.List.{take_rest}
use Rattle.rd_http_frame.specs.Chunks.{front_chunk}
use Rattle.rd_http_frame.proofs.ChunkSteps.{step_inner}
use Rattle.rd_http_frame.proofs.chunk.trailer_from.Goals as goal

pub loop-chunk-preserved : goal.loop-chunk-preserved
loop-chunk-preserved c =
    let at = c.loop-chunk.at in
    let bytes = c.args.bytes.now in
    record {
      within = omega (arith, c.in_ok-chunk.ensures.within, ap length (take_rest bytes at), length-drop at bytes, c.loop-chunk.invariant.within);
      same = c.loop-chunk.invariant.same
          ∙ step_inner bytes at c.in_ok-chunk.chunk (ap front_chunk (sym (take_rest bytes at)) ∙ sym c.in_ok-chunk.ensures.chunk) c.if-chunk.false;
    }
