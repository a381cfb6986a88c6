-- Small words on lists and numbers.
use Rattle.std.specs.Prelude.{ℕ, zero, suc, Bool, true, false, List, [], ◌∷◌, ◌++◌, Option, Some, None}

-- the numbers 0 to n-1
abbrev pub below : ℕ → List ℕ
below zero = []
below (suc n) = below n ++ n ∷ []

abbrev pub is_empty : {A : Type 0} → List A → Bool
is_empty [] = true
is_empty (x ∷ xs) = false

abbrev pub last_of_list : {A : Type 0} → List A → Option A
last_of_list [] = None
last_of_list (x ∷ []) = Some x
last_of_list (x ∷ y ∷ xs) = last_of_list (y ∷ xs)

abbrev pub without_last : {A : Type 0} → List A → List A
without_last [] = []
without_last (x ∷ []) = []
without_last (x ∷ y ∷ xs) = x ∷ without_last (y ∷ xs)
