use Rattle.std.proofs.Common.{◌≡◌, ◌++◌, map, take}
use Rattle.std.specs.Prelude.{slice_get}
use Rattle.rd_stream_verdict.proofs.heads.push_heads.Given as goal

abbrev pub invariant-loop-copy : goal.invariant-loop-copy
invariant-loop-copy l = l.heads.items ≡ l.initial.heads.items ++ map (λ c. slice_get c.waiting 0) (take l.copy-index l.copies)
