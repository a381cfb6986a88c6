use Rattle.std.proofs.Common.{◌<◌, ◌+◌, ◌-◌, ◌^◌, ℕ, Bool, length, set, List, ap, sym, subst, ◌∙◌, arith}
use Rattle.std.specs.Prelude.{slice_get, IfSome}
use Rattle.rd_stream_verdict.specs.Said.{at_place}
use Rattle.rd_stream_verdict.specs.Kept.{CopyKept}
use Rattle.rd_stream_verdict.specs.Sharing.{sharing, IsShared}
use Rattle.rd_stream_verdict.specs.Heads.{counted, waits}
use Rattle.rd_stream_verdict.proofs.KeptCopies.{set_place, length-place}
use Rattle.rd_stream_verdict.proofs.Sharing.{length-sharing, at_kept, shares_too, behind_counted}
use Rattle.rd_stream_verdict.proofs.buffers.Buffers.wait.Goals as goal

pub index_mut-requires-then-is : goal.index_mut-requires-then-is
index_mut-requires-then-is c =
    let size = length-sharing c.self.inside.sharers c.self.inside.shared c.self.inside.kept.items in
    omega (arith, c.requires.there, ap length c.self.view_is, size)

pub count-requires-then-is : goal.count-requires-then-is
count-requires-then-is c =
    let items = c.self.inside.kept.items in
    let n = c.self.inside.sharers in
    let t = c.self.inside.shared in
    let size = length-sharing n t items in
    let there : c.args.copy < length items = omega (arith, c.requires.there, ap length c.self.view_is, size) in
    let few : ℕ → Bool → Type 0 = λ fed whole. fed < 2 ^ 32 - 1 in
    let P : List CopyKept → Type 0 = λ xs. IfSome (slice_get xs c.args.copy) (λ d. few d.fed d.is_whole) in
    at_kept n t c.args.copy items c.index_mut-then-is.result.now few there c.index_mut-then-is.ensures.value (subst P (sym c.self.view_is) c.requires.fewer)

pub invariant_of-self-then-is : goal.invariant_of-self-then-is
invariant_of-self-then-is c =
    let items = c.self.inside.kept.items in
    let size = length-sharing c.self.inside.sharers c.self.inside.shared items in
    let there : c.args.copy < length items = omega (arith, c.requires.there, ap length c.self.view_is, size) in
    let is = ap (set items c.args.copy) c.count-then-is.ensures ∙ set_place counted c.args.copy items c.index_mut-then-is.result.now there c.index_mut-then-is.ensures.value in
    let P : List CopyKept → Type 0 = λ xs. IsShared (c.args.copy + 1) c.self.inside.only_shared xs in
    subst P (sym is) (record {
      most = omega (arith, length-place counted c.args.copy items);
      only = λ e. behind_counted c.args.copy items (c.self.invariant.only e);
    })

pub returns-then-is-clause-ok : goal.returns-then-is-clause-ok
returns-then-is-clause-ok c =
    let items = c.self.inside.kept.items in
    let n = c.self.inside.sharers in
    let t = c.self.inside.shared in
    let size = length-sharing n t items in
    let there : c.args.copy < length items = omega (arith, c.requires.there, ap length c.self.view_is, size) in
    ap (λ x. sharing (c.args.copy + 1) t (set items c.args.copy x)) c.count-then-is.ensures
    ∙ ap (sharing (c.args.copy + 1) t) (set_place counted c.args.copy items c.index_mut-then-is.result.now there c.index_mut-then-is.ensures.value)
    ∙ shares_too n c.args.copy t c.args.token.now items c.if-copy-self.true there (c.self.invariant.only c.if-self.true) (sym c.is.ensures ∙ c.if-is.true)
    ∙ ap (at_place (waits c.args.token.now) c.args.copy) c.self.view_is
