use Rattle.std.proofs.Common.{arith}
use Rattle.rd_stream_verdict.proofs.KeptBytes.{row_counted}
use Rattle.rd_stream_verdict.proofs.stream.bytes_of.Goals as goal

pub loop-index-preserved : goal.loop-index-preserved
loop-index-preserved c =
    row_counted c.args.copy c.args.rows.now c.loop-index.index c.loop-index.bytes c.at.result.now c.own.result.now c.loop-index.invariant (omega arith) c.at.ensures c.own.ensures
