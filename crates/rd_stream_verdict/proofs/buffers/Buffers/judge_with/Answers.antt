use Rattle.std.proofs.Common.{length, ap, arith}
use Rattle.rd_stream_verdict.proofs.Sharing.{length-sharing}
use Rattle.rd_stream_verdict.proofs.buffers.Buffers.judge_with.Goals as goal

pub heads_with-heads-requires-clause-there : goal.heads_with-heads-requires-clause-there
heads_with-heads-requires-clause-there c =
    let size = length-sharing c.self.inside.sharers c.self.inside.shared c.self.inside.kept.items in
    omega (arith, c.requires.there, ap length c.self.view_is, size, ap length c.as_slice-kept.ensures.value)

pub heads_with-heads-requires-clause-few : goal.heads_with-heads-requires-clause-few
heads_with-heads-requires-clause-few c =
    let size = length-sharing c.self.inside.sharers c.self.inside.shared c.self.inside.kept.items in
    omega (arith, c.requires.few, ap length c.self.view_is, size, ap length c.as_slice-kept.ensures.value)
