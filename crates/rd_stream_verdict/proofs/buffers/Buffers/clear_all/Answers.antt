use Rattle.std.proofs.Common.{◌≡◌, ◌++◌, ◌∙◌, ap, sym, set, length, map, take, drop, arith}
use Rattle.rd_stream_verdict.proofs.Sharing.{refill_all, mapped_all, clear_sharing}
use Rattle.std.proofs.lemmas.List.Edits.{map_over_more}
use Rattle.rd_stream_verdict.specs.Heads.{cleared}
use Rattle.rd_stream_verdict.proofs.buffers.Buffers.clear_all.Goals as goal

pub loop-copy-preserved : goal.loop-copy-preserved
loop-copy-preserved c =
    let all = c.deref_mut-copy-items.result.now in
    ap (set c.loop-copy.copy-items c.loop-copy.copy-index) (c.clear.ensures ∙ ap cleared (sym c.copy-item.is))
    ∙ map_over_more cleared all c.loop-copy.copy-items c.loop-copy.copy-index c.copy-item.result c.loop-copy-test.true c.loop-copy.invariant c.copy-item.is

pub returns : goal.returns
returns c =
    let items = c.self.inside.kept.items in
    let all = c.deref_mut-copy-items.result.now in
    let same : length c.loop-copy.copy-items ≡ length items = omega (arith, c.loop-copy.auto.copy-items, ap length c.deref_mut-copy-items.ensures.value) in
    ap (λ n. take n (c.loop-copy.copy-items ++ drop (length c.loop-copy.copy-items) items)) (let e : c.self.inside.kept.len ≡ length items = omega arith in e)
    ∙ refill_all items c.loop-copy.copy-items same
    ∙ mapped_all cleared all c.loop-copy.copy-items c.loop-copy.copy-index c.loop-copy-test.false c.loop-copy.invariant
    ∙ ap (map cleared) c.deref_mut-copy-items.ensures.value
    ∙ clear_sharing c.self.inside.sharers c.self.inside.shared items
    ∙ ap (map cleared) c.self.view_is
