use Rattle.std.proofs.Common.{ℕ, ◌+◌, ◌-◌, ◌*◌, ◌^◌, ◌<◌, ◌≤◌, ◌≡◌, Bool, true, false, ◌&&◌, nat_le, List, length, get_or, refl, sym, arith, pow-add}
use Rattle.std.proofs.Math.Nat.{pow-le-pow_right}
use Rattle.std.proofs.lemmas.Int.Digits.{digits_value_more}
use Rattle.std.proofs.lemmas.Str.{digit_value_digit}
use Rattle.std.proofs.lemmas.Bool.Decides.{nat_tests}
use Rattle.std.proofs.lemmas.Bool.{false≢true}
use Rattle.std.proofs.lemmas.List.Sums.{AllPass-from_list_all}
use Rattle.std.specs.List.{list_all}
use Rattle.std.specs.Char.{is_ascii_digit, digit_value}
use Rattle.rd_http_frame.specs.Fields.{is_length}
use Rattle.rd_http_frame.proofs.fields.length_of.Goals as goal

digit_more : (size digit at : ℕ) → size < 10 ^ at → digit < 10 → size * 10 + digit < 10 ^ (at + 1)
digit_more size digit at below small = omega (arith, pow-add 10 at 1)

below_top : (at : ℕ) → at < 15 → 10 ^ (at + 1) ≤ 10 ^ 15
below_top at h = pow-le-pow_right {n = 10} (omega arith) {j = 15} (omega arith)

digit_here : (b : ℕ) → is_ascii_digit b ≡ true → (b - 48 < 10) × (digit_value b + 48 ≡ b)
digit_here b h = (grind (arith, nat_tests, h), digit_value_digit b (grind (arith, nat_tests, h)))

below_all : (a b c : Bool) → (a && (b && c)) ≡ true → (b ≡ true) × (c ≡ true)
below_all true true true e = (refl, refl)
below_all true true false e = absurd (false≢true e)
below_all true false c e = absurd (false≢true e)
below_all false b c e = absurd (false≢true e)

short : (n : ℕ) → nat_le n 15 ≡ true → n ≤ 15
short n h = grind (arith, nat_tests, h)

-- what is known at each digit
digit_at : (value : List ℕ) (i : ℕ) → true ≡ is_length value → i < length value
    → (length value ≤ 15) × (get_or value i 0 - 48 < 10) × (get_or value i 0 - 48 ≡ digit_value (get_or value i 0))
digit_at value i h inside =
    let parts = below_all (nat_le 1 (length value)) (nat_le (length value) 15) (list_all is_ascii_digit value) (sym h) in
    let here = digit_here (get_or value i 0) (AllPass-from_list_all is_ascii_digit value parts.1 i 0 inside) in
    (short (length value) parts.0, here.0, omega (arith, here.1))

pub overflow_mul-size : goal.overflow_mul-size
overflow_mul-size c =
    let at = digit_at c.args.value.now c.digits.i (c.if-not-is_length.ensures) c.digits-test.true in
    omega (arith, digit_more c.digits.size 0 c.digits.i c.digits.invariant.0 (omega arith), below_top c.digits.i (omega (arith, at.0, c.digits-test.true)))

pub overflow_add-size : goal.overflow_add-size
overflow_add-size c =
    let at = digit_at c.args.value.now c.digits.i (c.if-not-is_length.ensures) c.digits-test.true in
    omega (arith, digit_more c.digits.size _ c.digits.i c.digits.invariant.0 at.1, below_top c.digits.i (omega (arith, at.0, c.digits-test.true)))

pub digits-preserved : goal.digits-preserved
digits-preserved c =
    let at = digit_at c.args.value.now c.digits.i (c.if-not-is_length.ensures) c.digits-test.true in (
      digit_more c.digits.size _ c.digits.i c.digits.invariant.0 at.1,
      rw (digits_value_more 10 c.args.value.now c.digits.i c.digits-test.true, ← c.digits.invariant.1, ← at.2) refl,
    )
