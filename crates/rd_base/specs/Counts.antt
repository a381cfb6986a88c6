-- Counts and lists that stand still at their greatest value, 2^64-1.
use Rattle.std.specs.Prelude.{ℕ, ◌+◌, ◌-◌, ◌^◌, min, List, [], ◌∷◌, ◌++◌, length, nat_lt, Option, option_map, if◌then◌else◌}

-- a count, one higher
abbrev pub counted : ℕ → ℕ
counted n = min (n + 1) (2 ^ 64 - 1)

-- two counts as one
abbrev pub sum_counted : ℕ → ℕ → ℕ
sum_counted m n = min (m + n) (2 ^ 64 - 1)

-- answers, and one more
abbrev pub with_answer : {A : Type 0} → A → List A → List A
with_answer x xs = if nat_lt (length xs) (2 ^ 64 - 1) then xs ++ x ∷ [] else xs

-- what was told, and then one answer; what tells nothing goes on so
abbrev pub told_with : {A : Type 0} → Option (List A) → A → Option (List A)
told_with told x = option_map (with_answer x) told
