use Rattle.std.proofs.Common.{ℕ, Bool, ◌<◌, ◌-◌, ◌^◌, length, set, List, ap, sym, subst, ◌∙◌, arith}
use Rattle.rd_stream_verdict.specs.Said.{at_place}
use Rattle.rd_stream_verdict.specs.Sharing.{sharing, IsShared}
use Rattle.std.specs.Prelude.{slice_get, IfSome}
use Rattle.rd_stream_verdict.specs.Kept.{CopyKept}
use Rattle.rd_stream_verdict.specs.Heads.{counted}
use Rattle.rd_stream_verdict.proofs.KeptCopies.{set_place, length-place}
use Rattle.rd_stream_verdict.proofs.Sharing.{length-sharing, at_kept, count_sharing, behind_counted}
use Rattle.rd_stream_verdict.proofs.buffers.Buffers.count.Goals as goal

pub index_mut-requires : goal.index_mut-requires
index_mut-requires c =
    let items = c.self.inside.kept.items in
    let size = length-sharing c.self.inside.sharers c.self.inside.shared items in
    omega (arith, c.requires.there, ap length c.self.view_is, size)

pub count-requires : goal.count-requires
count-requires c =
    let items = c.self.inside.kept.items in
    let n = c.self.inside.sharers in
    let t = c.self.inside.shared in
    let size = length-sharing n t items in
    let there : c.args.copy < length items = omega (arith, c.requires.there, ap length c.self.view_is, size) in
    let few : ℕ → Bool → Type 0 = λ fed whole. fed < 2 ^ 32 - 1 in
    let P : List CopyKept → Type 0 = λ xs. IfSome (slice_get xs c.args.copy) (λ d. few d.fed d.is_whole) in
    at_kept n t c.args.copy items c.index_mut.result.now few there c.index_mut.ensures.value (subst P (sym c.self.view_is) c.requires.fewer)

pub invariant_of-self : goal.invariant_of-self
invariant_of-self c =
    let items = c.self.inside.kept.items in
    let n = c.self.inside.sharers in
    let size = length-sharing n c.self.inside.shared items in
    let there : c.args.copy < length items = omega (arith, c.requires.there, ap length c.self.view_is, size) in
    let is = ap (set items c.args.copy) c.count.ensures ∙ set_place counted c.args.copy items c.index_mut.result.now there c.index_mut.ensures.value in
    let P : List CopyKept → Type 0 = λ xs. IsShared n c.self.inside.only_shared xs in
    subst P (sym is) (record {
      most = omega (arith, length-place counted c.args.copy items, c.self.invariant.most);
      only = λ e. behind_counted c.args.copy items (c.self.invariant.only e);
    })

pub returns : goal.returns
returns c =
    let items = c.self.inside.kept.items in
    let n = c.self.inside.sharers in
    let t = c.self.inside.shared in
    let size = length-sharing n t items in
    let there : c.args.copy < length items = omega (arith, c.requires.there, ap length c.self.view_is, size) in
    ap (λ x. sharing n t (set items c.args.copy x)) c.count.ensures
    ∙ ap (sharing n t) (set_place counted c.args.copy items c.index_mut.result.now there c.index_mut.ensures.value)
    ∙ count_sharing n t c.args.copy items
    ∙ ap (at_place counted c.args.copy) c.self.view_is
