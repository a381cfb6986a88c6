use Rattle.std.proofs.Common.{◌+◌, List, ◌≡◌, length, ap, sym, subst, ◌∙◌, arith, Some, replicate}
use Rattle.rd_stream_verdict.proofs.Sharing.{length-sharing, shared_by_all}
use Rattle.rd_stream_verdict.specs.Kept.{CopyKept}
use Rattle.rd_stream_verdict.specs.Heads.{heads_with}
use Rattle.rd_stream_verdict.proofs.buffers.Buffers.are_same_with.Goals as goal

pub is_last-requires : goal.is_last-requires
is_last-requires c =
    let items = c.self.inside.kept.items in
    let size = length-sharing c.self.inside.sharers c.self.inside.shared items in
    omega (arith, c.requires, c.len.ensures, ap length c.self.view_is, size)

pub returns-then-is_last : goal.returns-then-is_last
returns-then-is_last c = λ e.
    let n = c.self.inside.sharers in
    let t = c.self.inside.shared in
    let items = c.self.inside.kept.items in
    let both = c.is_last.ensures.0 c.if-is_last.true in
    let end : c.args.copy + 1 ≡ length items = omega (arith, both.1, c.len.ensures) in
    let P : List CopyKept → Type 0 = λ xs. heads_with c.args.copy (Some c.args.token.now) xs ≡ replicate (length xs) (Some c.args.token.now) in
    subst P c.self.view_is (shared_by_all n c.args.copy t c.args.token.now items both.0 end (sym c.is.ensures ∙ e))
