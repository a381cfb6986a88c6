use Rattle.std.proofs.Common.{List, sym, subst, arith, true}
use Rattle.rd_stream_verdict.specs.Kept.{CopyKept}
use Rattle.rd_stream_verdict.specs.Sharing.{IsShared}
use Rattle.rd_stream_verdict.proofs.Sharing.{silent_behind}
use Rattle.rd_stream_verdict.proofs.buffers.Buffers.new.Goals as goal

pub invariant_of-result : goal.invariant_of-result
invariant_of-result c =
    let P : List CopyKept → Type 0 = λ xs. IsShared 0 true xs in
    subst P (sym c.loop-i.invariant) (record { most = omega arith; only = λ e. silent_behind c.loop-i.i })
