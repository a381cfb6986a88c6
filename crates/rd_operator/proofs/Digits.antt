-- Numbers of at most 19 digits.
use Rattle.std.proofs.Common.{ℕ, ◌+◌, ◌-◌, ◌*◌, ◌^◌, ◌<◌, ◌≤◌, ◌≡◌, Bool, true, false, ◌&&◌, nat_le, List, length, get_or, refl, sym, arith, pow-add}
use Rattle.std.proofs.Math.Nat.{pow-le-pow_right}
use Rattle.std.proofs.lemmas.Str.{digit_value_digit}
use Rattle.std.proofs.lemmas.Bool.Decides.{nat_tests}
use Rattle.std.proofs.lemmas.Bool.{false≢true}
use Rattle.std.proofs.lemmas.List.Sums.{AllPass-from_list_all}
use Rattle.std.specs.List.{list_all}
use Rattle.std.specs.Char.{is_ascii_digit, digit_value}
use Rattle.rd_operator.specs.Asked.{is_id}

pub digit_more : (id digit at : ℕ) → id < 10 ^ at → digit < 10 → id * 10 + digit < 10 ^ (at + 1)
digit_more id digit at below small = omega (arith, pow-add 10 at 1)

pub below_top : (at : ℕ) → at < 19 → 10 ^ (at + 1) ≤ 10 ^ 19
below_top at h = pow-le-pow_right {n = 10} (omega arith) {j = 19} (omega arith)

digit_here : (b : ℕ) → is_ascii_digit b ≡ true → (b - 48 < 10) × (digit_value b + 48 ≡ b)
digit_here b h = (grind (arith, nat_tests, h), digit_value_digit b (grind (arith, nat_tests, h)))

below_all : (a b c : Bool) → (a && (b && c)) ≡ true → (b ≡ true) × (c ≡ true)
below_all true true true e = (refl, refl)
below_all true true false e = absurd (false≢true e)
below_all true false c e = absurd (false≢true e)
below_all false b c e = absurd (false≢true e)

short : (n : ℕ) → nat_le n 19 ≡ true → n ≤ 19
short n h = grind (arith, nat_tests, h)

-- what is known at each digit
pub digit_at : (text : List ℕ) (i : ℕ) → true ≡ is_id text → i < length text
    → (length text ≤ 19) × (get_or text i 0 - 48 < 10) × (get_or text i 0 - 48 ≡ digit_value (get_or text i 0))
digit_at text i h inside =
    let parts = below_all (nat_le 1 (length text)) (nat_le (length text) 19) (list_all is_ascii_digit text) (sym h) in
    let here = digit_here (get_or text i 0) (AllPass-from_list_all is_ascii_digit text parts.1 i 0 inside) in
    (short (length text) parts.0, here.0, omega (arith, here.1))
