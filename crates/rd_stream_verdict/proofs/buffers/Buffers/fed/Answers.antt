use Rattle.std.proofs.Common.{ℕ, Bool, length, List, ap, subst, arith, ◌<◌, ◌≡◌}
use Rattle.std.specs.Prelude.{slice_get, IfSome}
use Rattle.rd_stream_verdict.specs.Kept.{CopyKept}
use Rattle.rd_stream_verdict.proofs.Sharing.{length-sharing, some_kept}
use Rattle.rd_stream_verdict.proofs.buffers.Buffers.fed.Goals as goal

pub index-requires : goal.index-requires
index-requires c =
    let items = c.self.inside.kept.items in
    let size = length-sharing c.self.inside.sharers c.self.inside.shared items in
    omega (arith, c.requires, ap length c.self.view_is, size)

pub returns : goal.returns
returns c =
    let items = c.self.inside.kept.items in
    let size = length-sharing c.self.inside.sharers c.self.inside.shared items in
    let there : c.args.copy < length items = omega (arith, c.requires, ap length c.self.view_is, size) in
    let P : List CopyKept → Type 0 = λ xs. IfSome (slice_get xs c.args.copy) (λ d. c.fed.result ≡ d.fed) in
    let is : ℕ → Bool → Type 0 = λ fed whole. c.fed.result ≡ fed in
    subst P c.self.view_is (some_kept c.self.inside.sharers c.self.inside.shared c.args.copy items c.index.result.now is there c.index.ensures c.fed.ensures)
