use Rattle.std.proofs.Common.{refl, ℕ, ◌+◌, ◌*◌, ◌^◌, ◌<◌, ◌≤◌, arith, pow-add}
use Rattle.std.proofs.Math.Nat.{pow-le-pow_right}
use Rattle.std.proofs.lemmas.Int.Digits.{digits_value_more}
use Rattle.rd_http_frame.proofs.chunk.hex_value.Goals as goal

digit_more : (size digit at : ℕ) → size < 16 ^ at → digit < 16 → size * 16 + digit < 16 ^ (at + 1)
digit_more size digit at below small = omega (arith, pow-add 16 at 1)

below_top : (at : ℕ) → at < 8 → 16 ^ (at + 1) ≤ 16 ^ 8
below_top at h = pow-le-pow_right {n = 16} (omega arith) {j = 8} (omega arith)

below_end : (at : ℕ) → at ≤ 8 → 16 ^ at ≤ 16 ^ 8
below_end at h = pow-le-pow_right {n = 16} (omega arith) {j = 8} h

pub overflow_mul-size : goal.overflow_mul-size
overflow_mul-size c =
    omega (arith, digit_more c.digits.size 0 c.digits.i c.digits.invariant.0 (omega arith), below_top c.digits.i (omega (arith, c.requires.few, c.digits-test.true)))

pub overflow_add-size : goal.overflow_add-size
overflow_add-size c =
    omega (arith, digit_more c.digits.size c.digit_value.result c.digits.i c.digits.invariant.0 c.digit_value.ensures.small, below_top c.digits.i (omega (arith, c.requires.few, c.digits-test.true)))

pub digits-preserved : goal.digits-preserved
digits-preserved c = (
  digit_more c.digits.size c.digit_value.result c.digits.i c.digits.invariant.0 c.digit_value.ensures.small,
  rw (digits_value_more 16 c.args.digits.now c.digits.i c.digits-test.true, ← c.digits.invariant.1, ← c.digit_value.ensures.value) refl,
)

pub returns-clause-small : goal.returns-clause-small
returns-clause-small c =
    omega (arith, c.digits.invariant.0, below_end c.digits.i (omega (arith, c.requires.few, c.digits.auto)))
