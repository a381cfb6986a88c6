use Rattle.std.proofs.Common.{length, ap, ◌∙◌, arith}
use Rattle.rd_stream_verdict.specs.Heads.{only_behind}
use Rattle.rd_stream_verdict.proofs.Sharing.{length-sharing, last_is}
use Rattle.rd_stream_verdict.proofs.buffers.Buffers.is_only_behind.Goals as goal

pub is_last-requires : goal.is_last-requires
is_last-requires c =
    let items = c.self.inside.kept.items in
    let size = length-sharing c.self.inside.sharers c.self.inside.shared items in
    omega (arith, c.requires, c.len.ensures, ap length c.self.view_is, size)

pub returns-then-self : goal.returns-then-self
returns-then-self c =
    let n = c.self.inside.sharers in
    let t = c.self.inside.shared in
    let items = c.self.inside.kept.items in
    last_is c.is_last.result n t c.args.copy items (c.self.invariant.only c.if-self.true)
    (λ e. let both = c.is_last.ensures.0 e in (both.0, omega (arith, both.1, c.len.ensures)))
    (λ both. c.is_last.ensures.1 (both.0, omega (arith, both.1, c.len.ensures)))
    ∙ ap (only_behind c.args.copy) c.self.view_is
