use Rattle.std.proofs.Common.{◌<◌, ◌-◌, ◌^◌, ℕ, Bool, length, set, List, ap, sym, subst, ◌∙◌, arith}
use Rattle.rd_stream_verdict.specs.Said.{at_place}
use Rattle.rd_stream_verdict.specs.Sharing.{sharing}
use Rattle.rd_stream_verdict.specs.Heads.{waits}
use Rattle.std.specs.Prelude.{slice_get, IfSome}
use Rattle.rd_stream_verdict.specs.Kept.{CopyKept}
use Rattle.rd_stream_verdict.proofs.KeptCopies.{set_place}
use Rattle.rd_stream_verdict.proofs.Sharing.{length-sharing, at_kept, wait_sharing}
use Rattle.rd_stream_verdict.proofs.buffers.Buffers.wait_apart.Goals as goal

pub index_mut-requires : goal.index_mut-requires
index_mut-requires c =
    let items = c.self.inside.kept.items in
    let size = length-sharing c.self.inside.sharers c.self.inside.shared items in
    omega (arith, c.requires.there, ap length c.self.view_is, size)

pub wait-requires : goal.wait-requires
wait-requires c =
    let items = c.self.inside.kept.items in
    let n = c.self.inside.sharers in
    let t = c.self.inside.shared in
    let size = length-sharing n t items in
    let there : c.args.copy < length items = omega (arith, c.requires.there, ap length c.self.view_is, size) in
    let few : ℕ → Bool → Type 0 = λ fed whole. fed < 2 ^ 32 - 1 in
    let P : List CopyKept → Type 0 = λ xs. IfSome (slice_get xs c.args.copy) (λ d. few d.fed d.is_whole) in
    at_kept n t c.args.copy items c.index_mut.result.now few there c.index_mut.ensures.value (subst P (sym c.self.view_is) c.requires.fewer)

pub returns-clause-ok : goal.returns-clause-ok
returns-clause-ok c =
    let items = c.self.inside.kept.items in
    let n = c.self.inside.sharers in
    let t = c.self.inside.shared in
    let size = length-sharing n t items in
    let there : c.args.copy < length items = omega (arith, c.requires.there, ap length c.self.view_is, size) in
    let change = waits c.new.result in
    ap (λ x. sharing n t (set items c.args.copy x)) c.in_ok-wait.ensures.ok
    ∙ ap (sharing n t) (set_place change c.args.copy items c.index_mut.result.now there c.index_mut.ensures.value)
    ∙ wait_sharing n t c.new.result c.args.copy items
    ∙ ap (at_place change c.args.copy) c.self.view_is
    ∙ ap (λ u. at_place (waits u) c.args.copy c.args.self.now) c.new.ensures
