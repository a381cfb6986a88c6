use Rattle.std.proofs.Common.{length, ap, sym, ◌∙◌, arith, ◌<◌, ◌≡◌, ◌+◌}
use Rattle.std.specs.Prelude.{slice_get}
use Rattle.rd_stream_verdict.specs.Queue.{bytes_in}
use Rattle.rd_stream_verdict.specs.Kept.{waiting_bytes}
use Rattle.rd_stream_verdict.proofs.Sharing.{length-sharing, bytes_shared, bytes_apart}
use Rattle.rd_stream_verdict.proofs.buffers.Buffers.bytes.Goals as goal

pub index-requires : goal.index-requires
index-requires c =
    let items = c.self.inside.kept.items in
    let size = length-sharing c.self.inside.sharers c.self.inside.shared items in
    omega (arith, c.requires, ap length c.self.view_is, size)

pub returns-then-copy-self-clause-bytes : goal.returns-then-copy-self-clause-bytes
returns-then-copy-self-clause-bytes c =
    let items = c.self.inside.kept.items in
    let size = length-sharing c.self.inside.sharers c.self.inside.shared items in
    let there : c.args.copy < length items = omega (arith, c.requires, ap length c.self.view_is, size) in
    let sum : c.bytes.result + c.bytes-own.result ≡ length c.self.inside.shared.text + bytes_in c.index.result.now.waiting = omega (arith, c.bytes.ensures.bytes, c.bytes-own.ensures.bytes) in
    sum
    ∙ sym (bytes_shared c.self.inside.sharers c.self.inside.shared c.args.copy items c.index.result.now c.if-copy-self.true there c.index.ensures)
    ∙ ap (λ xs. waiting_bytes (slice_get xs c.args.copy)) c.self.view_is

pub returns-else-copy-self-clause-bytes : goal.returns-else-copy-self-clause-bytes
returns-else-copy-self-clause-bytes c =
    let items = c.self.inside.kept.items in
    let size = length-sharing c.self.inside.sharers c.self.inside.shared items in
    let there : c.args.copy < length items = omega (arith, c.requires, ap length c.self.view_is, size) in
    c.bytes-own.ensures.bytes
    ∙ sym (bytes_apart c.self.inside.sharers c.self.inside.shared c.args.copy items c.index.result.now c.if-copy-self.false there c.index.ensures)
    ∙ ap (λ xs. waiting_bytes (slice_get xs c.args.copy)) c.self.view_is
