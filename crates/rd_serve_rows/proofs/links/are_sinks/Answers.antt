use Rattle.std.proofs.Common.{◌≡◌, ◌<◌, ◌+◌, length, get_or, false, ap, rules}
use Rattle.rd_serve_rows.proofs.Marking.{sinks_more}
use Rattle.rd_serve_rows.proofs.links.are_sinks.Goals as goal

pub loop-sink-preserved : goal.loop-sink-preserved
loop-sink-preserved c =
    let within : c.loop-sink.link < length c.args.sinks.now = search rules in
    let at : c.sink-item.result ≡ get_or c.args.sinks.now c.loop-sink.link c.sink-item.result = search rules in
    let first : c.sink-item.result.first ≡ c.args.number = search rules in
    let second : c.sink-item.result.second ≡ c.loop-sink.link = search rules in
    let is_open : c.sink-item.result.is_closed ≡ false = search rules in
    (ap (λ n. n + 1) c.loop-sink.invariant.0, sinks_more c.args.number c.loop-sink.link c.args.sinks.now c.sink-item.result within at c.loop-sink.invariant.1 first second is_open)
