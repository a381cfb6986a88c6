use Rattle.std.proofs.Common.{arith}
use Rattle.rd_net_edge.proofs.Making.{made_more, mark_is}
use Rattle.rd_net_edge.proofs.ends.make_ends.Goals as goal

pub loop-stream-preserved-in-Ok : goal.loop-stream-preserved-in-Ok
loop-stream-preserved-in-Ok g c =
    let source = c.in-Ok.ensures.source in
    let sink = c.in-Ok.ensures.sink in
    let sources_len = c.push_reserved.ensures.len in
    let sinks_len = c.push_reserved-in-Ok.ensures.len in
    let sources_room = c.push_reserved.ensures.capacity in
    let sinks_room = c.push_reserved-in-Ok.ensures.capacity in
    let had_sources = c.loop-stream.invariant.1 in
    let had_sinks = c.loop-stream.invariant.2 in
    let room_sources = c.loop-stream.invariant.3 in
    let room_sinks = c.loop-stream.invariant.4 in
    let most = c.loop-stream.invariant.5 in
    let fewer = c.if-link-eq-MOST_LINKS.false in (
      made_more c.args.number c.loop-stream.link c.loop-stream.sources.items c.push_reserved.new.self.items c.loop-stream.sinks.items c.push_reserved-in-Ok.new.self.items c.in-Ok.source c.in-Ok.sink
          c.loop-stream.invariant.0 c.push_reserved.ensures.items c.push_reserved-in-Ok.ensures.items
          (mark_is c.in-Ok.source.first c.in-Ok.source.second c.args.number c.loop-stream.link source.0 source.1)
          (mark_is c.in-Ok.sink.first c.in-Ok.sink.second c.args.number c.loop-stream.link sink.0 sink.1)
          c.in-Ok.ensures.is_open,
      omega arith,
      omega arith,
      omega arith,
      omega arith,
      omega arith,
    )
