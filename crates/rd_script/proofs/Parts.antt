-- Texts cut at a byte.
use Rattle.std.proofs.Common.{◌≡◌, ℕ, ◌+◌, ◌<◌, ◌≤◌, Bool, false, List, [], ◌∷◌, length, take, drop, Some, None, arith}
use Rattle.std.specs.List.{slice_split, position_or_len, position}
use Rattle.std.proofs.lemmas.List.Elements.{All-from_get_or}
use Rattle.std.proofs.lemmas.List.Splits.{slice_split_first, slice_split_none, length-slice_split}
use Rattle.std.proofs.lemmas.List.Sums.{fails_before_first}
use Rattle.std.proofs.lemmas.Bool.Decides.{nat_tests}

-- a text that is cut has a part
pub some_part : (p : ℕ → Bool) (xs : List ℕ) → 1 ≤ length (slice_split p xs)
some_part p xs = omega (arith, length-slice_split p xs)

-- where no byte passes, the text is the one part
pub uncut : (p : ℕ → Bool) (xs : List ℕ) → None ≡ position p xs → slice_split p xs ≡ xs ∷ []
uncut p xs none =
    let all : length xs ≤ position_or_len p xs = grind (arith, nat_tests) in
    slice_split_none p xs (All-from_get_or (λ x. p x ≡ false) xs 0 (λ k lt. fails_before_first p xs k 0 (omega arith)))

-- the first byte that passes cuts off the first part
pub is_cut : (p : ℕ → Bool) (xs : List ℕ) (at : ℕ) → Some at ≡ position p xs → (at < length xs) × (slice_split p xs ≡ take at xs ∷ slice_split p (drop (at + 1) xs))
is_cut p xs at some =
    let here : (at ≡ position_or_len p xs) × (at < length xs) = grind (arith, nat_tests) in
    (here.1, rw here.0 (slice_split_first p xs 0 (omega arith)))
