-- The numbers of each seat's learns, behind one learn more.
use Rattle.std.proofs.Common.{◌≡◌, ℕ, zero, suc, ◌+◌, ◌<◌, ◌==◌, Bool, true, false, List, [], ◌∷◌, ◌++◌, length, set, replicate, Some, refl, sym, ap, ◌∙◌, subst, arith, length-append}
use Rattle.std.specs.List.{slice_get}
use Rattle.std.proofs.lemmas.Bool.{eqb-true}
use Rattle.std.proofs.lemmas.Bool.Decides.{nat_tests}
use Rattle.rd_base.specs.History.{Row}
use Rattle.rd_history.specs.declared.learn.Learn.{Learn}
use Rattle.rd_history.specs.Learns.{entry, of_seat}
use Rattle.rd_shared_book.specs.Books.{AreCounts}
use Rattle.rd_shared_book.proofs.Appended.{of_seat-own, of_seat-other}

-- ---- a list of numbers with one of them changed

set_here : (xs : List ℕ) (k v : ℕ) → k < length xs → slice_get (set xs k v) k ≡ Some v
set_here [] k v lt = absurd (omega arith)
set_here (x ∷ xs) zero v lt = refl
set_here (x ∷ xs) (suc k) v lt = set_here xs k v (omega arith)

set_other : (xs : List ℕ) (k j v : ℕ) → (j ≡ k → ⊥) → slice_get (set xs k v) j ≡ slice_get xs j
set_other [] k j v differs = refl
set_other (x ∷ xs) zero zero v differs = absurd (differs refl)
set_other (x ∷ xs) zero (suc j) v differs = refl
set_other (x ∷ xs) (suc k) zero v differs = refl
set_other (x ∷ xs) (suc k) (suc j) v differs = set_other xs k j v (λ e. differs (ap suc e))

set_length : (xs : List ℕ) (k v : ℕ) → length (set xs k v) ≡ length xs
set_length [] k v = refl
set_length (x ∷ xs) zero v = refl
set_length (x ∷ xs) (suc k) v = ap suc (set_length xs k v)

-- ---- the numbers of learns

abbrev pub zeros : ℕ → List ℕ
zeros n = replicate n 0

zeros_at : (n k : ℕ) → k < n → slice_get (zeros n) k ≡ Some 0
zeros_at zero k lt = absurd (omega arith)
zeros_at (suc n) zero lt = refl
zeros_at (suc n) (suc k) lt = zeros_at n k (omega arith)

zeros_length : (n : ℕ) → length (zeros n) ≡ n
zeros_length zero = refl
zeros_length (suc n) = ap suc (zeros_length n)

pub no_counts : (seats : ℕ) → AreCounts seats (zeros seats) []
no_counts seats = record { count = zeros_length seats; each = λ seat below. zeros_at seats seat below }

pub counts-more : (seats seat number n : ℕ) (row : Row) (counts : List ℕ) (learns : List Learn) → seat < seats
    → AreCounts seats counts learns → n ≡ length (of_seat seat learns)
    → AreCounts seats (set counts seat (n + 1)) (learns ++ entry seat number row ∷ [])
counts-more seats seat number n row counts learns below are is =
    record { count = set_length counts seat (n + 1) ∙ are.count; each = each }
  where
    within : seat < length counts
    within = omega (arith, below, are.count)

    own : length (of_seat seat (learns ++ entry seat number row ∷ [])) ≡ n + 1
    own = ap length (of_seat-own seat number row learns) ∙ omega (arith, length-append (of_seat seat learns) (entry seat number row ∷ []), is)

    at : (other : ℕ) → other < seats → (t : Bool) → (seat == other) ≡ t → slice_get (set counts seat (n + 1)) other ≡ Some (length (of_seat other (learns ++ entry seat number row ∷ [])))
    at other lt true e =
        let same : seat ≡ other = eqb-true seat other e in
        let P : ℕ → Type 0 = λ k. slice_get (set counts seat (n + 1)) k ≡ Some (length (of_seat k (learns ++ entry seat number row ∷ []))) in
        subst P same (set_here counts seat (n + 1) within ∙ ap Some (sym own))
    at other lt false e =
        let apart : seat ≡ other → ⊥ = λ s. grind (arith, nat_tests, e, s) in
        set_other counts seat other (n + 1) (λ s. apart (sym s)) ∙ are.each other lt ∙ ap (λ ls. Some (length ls)) (sym (of_seat-other other seat number row learns apart))

    each : (other : ℕ) → other < seats → slice_get (set counts seat (n + 1)) other ≡ Some (length (of_seat other (learns ++ entry seat number row ∷ [])))
    each other lt = at other lt (seat == other) refl
