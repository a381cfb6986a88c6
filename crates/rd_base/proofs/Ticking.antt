-- The answers of a clock in memory, one call further.
use Rattle.std.proofs.Common.{◌≡◌, ℕ, ◌+◌, ◌-◌, ◌<◌, ◌≤◌, ◌^◌, List, [], ◌∷◌, ◌++◌, length, get_or, take, replicate, cond, Some, sym, ap, ap₂, ◌∙◌, arith, append_assoc, length-append, append-nil, inl, inr}
use Rattle.std.proofs.lemmas.Bool.{cases_lt, lt-ltb, le-ltb}
use Rattle.std.proofs.lemmas.List.{take_more, take_all, replicate_more, length-replicate, length-take}
use Rattle.rd_base.specs.Counts.{counted, told_with}
use Rattle.rd_base.specs.MemClocks.{first_answers, answer_of, last_answer}

-- as many answers as calls
answers_len : (xs : List ℕ) (n : ℕ) → length (first_answers xs n) ≡ n
answers_len xs n =
    let joined = length-append (take n xs) (replicate (n - length xs) (last_answer xs)) in
    let front = length-take n xs in
    let rest = length-replicate (n - length xs) (last_answer xs) in
    joined ∙ ap₂ (λ a b. a + b) front rest ∙ omega arith

one_more : (xs : List ℕ) (n : ℕ) → first_answers xs (n + 1) ≡ first_answers xs n ++ answer_of xs n ∷ []
one_more xs n = elim (cases_lt n (length xs)) [ inl lt ↦ within lt | inr le ↦ behind le ]
  where
    last : ℕ
    last = last_answer xs

    joined : (ys : List ℕ) (k : ℕ) → k ≡ 0 → ys ++ replicate k last ≡ ys
    joined ys k none = ap (λ i. ys ++ replicate i last) none ∙ append-nil ys

    within : n < length xs → first_answers xs (n + 1) ≡ first_answers xs n ++ answer_of xs n ∷ []
    within lt =
        joined (take (n + 1) xs) (n + 1 - length xs) (omega (arith, lt))
        ∙ take_more xs n 0 lt
        ∙ ap₂ (λ ys y. ys ++ y ∷ []) (sym (joined (take n xs) (n - length xs) (omega (arith, lt)))) (ap (λ t. cond t (get_or xs n 0) last) (sym (lt-ltb n (length xs) lt)))

    behind : length xs ≤ n → first_answers xs (n + 1) ≡ first_answers xs n ++ answer_of xs n ∷ []
    behind le =
        ap₂ (λ ys k. ys ++ replicate k last) (take_all (n + 1) xs (omega (arith, le)) ∙ sym (take_all n xs le)) (omega (arith, le))
        ∙ ap (λ ys. take n xs ++ ys) (sym (replicate_more (n - length xs) last))
        ∙ sym (append_assoc (take n xs) (replicate (n - length xs) last) (last ∷ []))
        ∙ ap (λ y. first_answers xs n ++ y ∷ []) (ap (λ t. cond t (get_or xs n 0) last) (sym (le-ltb n (length xs) le)))

-- what is told then; no more than 2^64-1 answers are
pub told_then : (xs : List ℕ) (n later answer : ℕ) → later ≡ counted n → answer ≡ answer_of xs n → n ≤ 2 ^ 64 - 1 → Some (first_answers xs later) ≡ told_with (Some (first_answers xs n)) answer
told_then xs n later answer is said most = elim (cases_lt n (2 ^ 64 - 1)) [ inl lt ↦ more lt | inr le ↦ full le ]
  where
    given : List ℕ
    given = first_answers xs n

    more : n < 2 ^ 64 - 1 → Some (first_answers xs later) ≡ told_with (Some given) answer
    more lt =
        ap (λ k. Some (first_answers xs k)) (is ∙ omega (arith, lt))
        ∙ ap Some (one_more xs n ∙ ap (λ a. given ++ a ∷ []) (sym said))
        ∙ ap (λ t. Some (cond t (given ++ answer ∷ []) given)) (sym (lt-ltb (length given) (2 ^ 64 - 1) (omega (arith, lt, answers_len xs n))))

    full : 2 ^ 64 - 1 ≤ n → Some (first_answers xs later) ≡ told_with (Some given) answer
    full le =
        ap (λ k. Some (first_answers xs k)) (is ∙ omega (arith, le, most))
        ∙ ap (λ t. Some (cond t (given ++ answer ∷ []) given)) (sym (le-ltb (length given) (2 ^ 64 - 1) (omega (arith, le, answers_len xs n))))
