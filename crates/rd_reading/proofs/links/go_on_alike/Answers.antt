use Rattle.std.proofs.Common.{◌≡◌, ◌-◌, ℕ, take, drop, true, sym, subst, ◌∙◌, arith}
use Rattle.std.proofs.lemmas.Slice.Eq.{bytes_eq-Decides}
use Rattle.rd_reading.specs.Fronts.{IsFrontOf, longer}
use Rattle.rd_reading.proofs.OneFront.{goes_on}
use Rattle.rd_reading.proofs.links.go_on_alike.Goals as goal
use Rattle.rd_reading.proofs.links.go_on_alike.Goals.{After-eq}

both : (c : After-eq) → c.eq.result ≡ true → IsFrontOf (take c.args.from c.args.bytes.now) c.args.top.now
    → IsFrontOf c.args.bytes.now (longer c.args.top.now c.args.bytes.now) × IsFrontOf c.args.top.now (longer c.args.top.now c.args.bytes.now)
both c same before =
    let from = c.args.from in
    let bytes = c.args.bytes.now in
    let top = c.args.top.now in
    let n = c.min-both.result in
    let equal : take (n - from) (drop from bytes) ≡ take (n - from) (drop from top) =
    (bytes_eq-Decides (take (n - from) (drop from bytes)) (take (n - from) (drop from top))).0 (sym c.eq.ensures ∙ same) in
    goes_on bytes from top before
    (subst (λ (k : ℕ). take (k - from) (drop from bytes) ≡ take (k - from) (drop from top)) c.min-both.ensures equal)
    (omega (arith, c.if-both-from.false, c.min-both.ensures))

pub returns-else-both-from-clause-bytes : goal.returns-else-both-from-clause-bytes
returns-else-both-from-clause-bytes c = λ same before. (both c same before).0

pub returns-else-both-from-clause-top : goal.returns-else-both-from-clause-top
returns-else-both-from-clause-top c = λ same before. (both c same before).1
