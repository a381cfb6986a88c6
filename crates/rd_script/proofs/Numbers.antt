-- What `parse` reads of a numeral.
use Rattle.std.proofs.Common.{◌≡◌, ℕ, ◌<◌, ◌^◌, true, false, List, [], ◌∷◌, length, Some, None, Result, Ok, Err, refl, ap, subst, Bor, arith, rules}
use Rattle.std.specs.Prelude.{nat_lt}
use Rattle.std.specs.Char.{is_ascii_digit}
use Rattle.std.specs.List.{list_all}
use Rattle.std.specs.Result.{result_ok, OkIff, MatchResult}
use Rattle.std.specs.Str.{IsUtf8}
use Rattle.std.specs.Str.Parse.{digits_value, ParsesUnsigned}
use Rattle.std.proofs.lemmas.Bool.Decides.{nat_tests}
use Rattle.std.proofs.lemmas.Fmt.{IsAscii-from_digits}
use Rattle.std.proofs.lemmas.Str.{IsUtf8-from_ascii}
use Rattle.std.proofs.lemmas.Str.Parse.{IsDigitsTest, IsNumeralModel, numerals_by_value, parse_digits}
use Rattle.rd_script.specs.Script.{is_numeral, number_of}

tests_digits : IsDigitsTest (λ ds. list_all is_ascii_digit ds ≡ true)
tests_digits = search rules

numerals : IsNumeralModel (λ ds. list_all is_ascii_digit ds ≡ true) (digits_value 10)
numerals = numerals_by_value _ tests_digits

numeral_digits : (word : List ℕ) → is_numeral word ≡ true → list_all is_ascii_digit word ≡ true
numeral_digits [] is = refl
numeral_digits (digit ∷ []) is = grind (arith, nat_tests)
numeral_digits (first ∷ second ∷ more) is = grind (arith, nat_tests)

numeral_some : (word : List ℕ) → is_numeral word ≡ true → 0 < length word
numeral_some [] is = cc
numeral_some (first ∷ more) is = omega arith

pub numeral_utf8 : (word : List ℕ) → is_numeral word ≡ true → IsUtf8 word
numeral_utf8 word is = IsUtf8-from_ascii word (IsAscii-from_digits word (numerals.to word (numeral_digits word is)))

read : {E : Type 0} (word : List ℕ) (r : Result ℕ E) → is_numeral word ≡ true → OkIff r ((0 < length word) × (digits_value 10 word < 2 ^ 64)) (digits_value 10 word) → result_ok r ≡ number_of word
read word (Ok x) is h =
    let fits : nat_lt (digits_value 10 word) (2 ^ 64) ≡ true = grind (arith, nat_tests) in
    rw (is, fits) (ap Some h.1)
read word (Err e) is h =
    let some = numeral_some word is in
    let past : nat_lt (digits_value 10 word) (2 ^ 64) ≡ false = grind (arith, nat_tests) in
    rw (is, past)

-- a numeral is read as the number that it stands for, where that fits
pub parsed : {E : Type 0} (word : List ℕ) (r : Result ℕ E) → is_numeral word ≡ true → ParsesUnsigned 64 10 word r → result_ok r ≡ number_of word
parsed word r is h = read word r is (parse_digits numerals 64 word r h (numeral_digits word is))

-- what is text is read as text
pub is_text : {E : Type 0} (word : List ℕ) (r : Result (Bor (List ℕ)) E) (Q : E → Type 0) → result_ok r ≡ None → MatchResult r (λ s. (s.now ≡ word) × IsUtf8 word) (λ e. (¬ (IsUtf8 word)) × Q e) → IsUtf8 word → ⊥
is_text word (Ok s) Q none h is = cc
is_text word (Err e) Q none h is = h.0 is

-- and as the same text
pub same_text : {E : Type 0} (word : List ℕ) (r : Result (Bor (List ℕ)) E) (s : Bor (List ℕ)) (Q : E → Type 0) → Some s ≡ result_ok r → MatchResult r (λ t. (t.now ≡ word) × IsUtf8 word) Q → s.now ≡ word
same_text word (Ok t) s Q some h = let e : t ≡ s = cc in subst (λ (u : Bor (List ℕ)). u.now ≡ word) e h.0
same_text word (Err e) s Q some h = cc
