use Rattle.std.proofs.Common.{ap, sym, ◌∙◌}
use Rattle.std.specs.List.{list_all}
use Rattle.rd_stream_verdict.specs.Kept.{CopyKept}
use Rattle.rd_stream_verdict.proofs.Sharing.{whole_sharing}
use Rattle.rd_stream_verdict.proofs.buffers.Buffers.are_whole.Goals as goal

pub returns : goal.returns
returns c =
    let items = c.self.inside.kept.items in
    c.are_all_whole.ensures
    ∙ ap (list_all (λ (d : CopyKept). d.is_whole)) c.as_slice.ensures.value
    ∙ sym (whole_sharing c.self.inside.sharers c.self.inside.shared items)
    ∙ ap (list_all (λ (d : CopyKept). d.is_whole)) c.self.view_is
