use Rattle.std.proofs.Common.{map, ap, ◌∙◌}
use Rattle.rd_stream_verdict.specs.Heads.{passed}
use Rattle.rd_stream_verdict.proofs.Sharing.{pass_shared}
use Rattle.rd_stream_verdict.proofs.buffers.Buffers.pass_all.Goals as goal

pub returns-then-self : goal.returns-then-self
returns-then-self c =
    pass_shared c.self.inside.sharers c.self.inside.shared c.self.inside.kept.items (c.self.invariant.only c.if-self.true)
    ∙ ap (map passed) c.self.view_is
