use Rattle.std.proofs.Common.{◌<◌, length, set, ap, ◌∙◌, arith}
use Rattle.rd_stream_verdict.specs.Said.{at_place}
use Rattle.rd_stream_verdict.specs.Sharing.{sharing}
use Rattle.rd_stream_verdict.specs.Heads.{closed}
use Rattle.rd_stream_verdict.proofs.KeptCopies.{set_place}
use Rattle.rd_stream_verdict.proofs.Sharing.{length-sharing, close_sharing}
use Rattle.rd_stream_verdict.proofs.buffers.Buffers.close.Goals as goal

pub index_mut-requires : goal.index_mut-requires
index_mut-requires c =
    let items = c.self.inside.kept.items in
    let size = length-sharing c.self.inside.sharers c.self.inside.shared items in
    omega (arith, c.requires, ap length c.self.view_is, size)

pub returns : goal.returns
returns c =
    let items = c.self.inside.kept.items in
    let n = c.self.inside.sharers in
    let t = c.self.inside.shared in
    let size = length-sharing n t items in
    let there : c.args.copy < length items = omega (arith, c.requires, ap length c.self.view_is, size) in
    ap (λ x. sharing n t (set items c.args.copy x)) c.close.ensures
    ∙ ap (sharing n t) (set_place closed c.args.copy items c.index_mut.result.now there c.index_mut.ensures.value)
    ∙ close_sharing n t c.args.copy items
    ∙ ap (at_place closed c.args.copy) c.self.view_is
