-- The first place of a number.
use Rattle.std.proofs.Common.{◌≡◌, ◌≢◌, ℕ, zero, suc, ◌+◌, ◌≤◌, ◌<◌, ◌==◌, Bool, true, false, List, [], ◌∷◌, ◌++◌, length, take, drop, get_or, ◌⊎◌, inl, inr, refl, sym, ap, ◌∙◌, subst, arith, if◌then◌else◌}
use Rattle.rd_doors.specs.Visits.{without, Holds}

here : (n m : ℕ) (xs : List ℕ) (b : Bool) → (m == n) ≡ b → m ≡ n → xs ≡ (if b then xs else m ∷ without n xs)
here n m xs true is same = refl
here n m xs false is same = absurd (grind arith)

later : (n m : ℕ) (xs rest : List ℕ) (b : Bool) → (m == n) ≡ b → m ≢ n → rest ≡ without n xs → m ∷ rest ≡ (if b then xs else m ∷ without n xs)
later n m xs rest true is other same = absurd (other (grind arith))
later n m xs rest false is other same = ap (λ r. m ∷ r) same

pub first_at : (n : ℕ) (xs : List ℕ) (i : ℕ) → i < length xs → ((j : ℕ) → j < i → get_or xs j 0 ≢ n) → get_or xs i 0 ≡ n
    → take i xs ++ drop (suc i) xs ≡ without n xs
first_at n [] i within before at = absurd (omega arith)
first_at n (x ∷ xs) zero within before at = here n x xs (x == n) refl at
first_at n (x ∷ xs) (suc i) within before at =
    later n x xs (take i xs ++ drop (suc i) xs) (x == n) refl (before 0 (omega arith))
    (first_at n xs i (omega arith) (λ j less. before (suc j) (omega arith)) at)

pub none_holds : (n : ℕ) (xs : List ℕ) → ((j : ℕ) → j < length xs → get_or xs j 0 ≢ n) → Holds n xs → ⊥
none_holds n [] none holds = holds
none_holds n (x ∷ xs) none (inl is) = none 0 (omega arith) is
none_holds n (x ∷ xs) none (inr holds) = none_holds n xs (λ j less. none (suc j) (omega arith)) holds
