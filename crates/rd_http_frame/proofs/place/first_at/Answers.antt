use Rattle.std.proofs.Common.{◌∙◌, ◌≡◌, ◌+◌, ◌-◌, ◌≤◌, true, false, ℕ, ◌<◌, arith, slice_index, drop, length, length-drop, get_or-drop, List, ◌==◌, ap}
use Rattle.std.proofs.lemmas.List.Sums.{position_or_len_is}
use Rattle.std.specs.List.{position_or_len}
use Rattle.std.proofs.lemmas.Bool.Decides.{nat_tests}
use Rattle.rd_http_frame.specs.Places.{first_at}
use Rattle.rd_http_frame.proofs.place.first_at.Goals as goal

-- the first place at which the test passes, from at on
found_at : (bytes : List ℕ) (at i stop : ℕ) → at ≤ i → i ≤ length bytes
    → ((k : ℕ) → at ≤ k → k < i → (slice_index bytes k == stop) ≡ false)
    → (i < length bytes → (slice_index bytes i == stop) ≡ true) → i ≡ first_at bytes at stop
found_at bytes at i stop ordered inside none here =
    let n : position_or_len (λ b. b == stop) (drop at bytes) ≡ i - at =
    position_or_len_is (λ b. b == stop) (drop at bytes) (i - at) 0 (omega (arith, length-drop at bytes))
    (λ k below. rw get_or-drop (none (at + k) (omega arith) (omega arith)))
    (λ below. rw get_or-drop (subst_i (here (omega (arith, length-drop at bytes, below))))) in
    omega (arith, n)
  where
    subst_i : (slice_index bytes i == stop) ≡ true → (slice_index bytes (at + (i - at)) == stop) ≡ true
    subst_i h = ap (λ (n : ℕ). slice_index bytes n == stop) (sum) ∙ h
      where
        sum : at + (i - at) ≡ i
        sum = omega arith

pub returns-then-bytes-i-clause-value : goal.returns-then-bytes-i-clause-value
returns-then-bytes-i-clause-value c =
    found_at c.args.bytes.now c.args.at c.bytes.i c.args.stop c.bytes.invariant.0 (omega (arith, c.bytes-test.true)) c.bytes.invariant.1
    (λ _. grind (arith, nat_tests, c.if-bytes-i.true))

pub returns-clause-value : goal.returns-clause-value
returns-clause-value c =
    found_at c.args.bytes.now c.args.at _ c.args.stop c.requires (omega arith)
    (λ k a b. c.bytes.invariant.1 k a (omega (arith, c.bytes-test.false, b))) (λ h. absurd (omega (arith, h)))
