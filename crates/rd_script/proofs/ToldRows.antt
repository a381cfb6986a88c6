-- The row of a line, word by word.
use Rattle.std.proofs.Common.{◌≡◌, ℕ, zero, suc, ◌≤◌, List, [], ◌∷◌, ◌++◌, length, Option, Some, None, option_map, option_and_then, refl, sym, ap, ◌∙◌, arith, append_assoc}
use Rattle.rd_base.specs.History.{Row}
use Rattle.rd_script.specs.Script.{row_of_words, row_word_of}

-- these words, and behind them those that are still to be read
abbrev pub behind : Row → Option Row → Option Row
behind words rest = option_map (λ r. words ++ r) rest

on_word : (words : Row) (word : List ℕ) (rest : Option Row) → behind words (option_map (λ r. word ∷ r) rest) ≡ behind (words ++ word ∷ []) rest
on_word words word None = refl
on_word words word (Some r) = ap Some (sym (append_assoc words (word ∷ []) r))

-- one word more
pub more_words : (m : ℕ) (words : Row) (hex word : List ℕ) (parts : List (List ℕ)) → Some word ≡ row_word_of hex → behind words (row_of_words (suc m) (hex ∷ parts)) ≡ behind (words ++ word ∷ []) (row_of_words m parts)
more_words m words hex word parts some =
    ap (λ o. behind words (option_and_then (λ w. option_map (λ r. w ∷ r) (row_of_words m parts)) o)) (sym some) ∙ on_word words word (row_of_words m parts)

-- digits that stand for no word of a row
pub no_word : (m : ℕ) (words : Row) (hex : List ℕ) (parts : List (List ℕ)) → None ≡ row_word_of hex → None ≡ behind words (row_of_words m (hex ∷ parts))
no_word zero words hex parts none = refl
no_word (suc m) words hex parts none =
    ap (λ o. behind words (option_and_then (λ w. option_map (λ r. w ∷ r) (row_of_words m parts)) o)) none

abbrev no_row : List ℕ → Option Row
no_row word = None

nothing : (words : Row) (o : Option (List ℕ)) → None ≡ behind words (option_and_then no_row o)
nothing words None = refl
nothing words (Some w) = refl

-- one word where more are needed
pub too_few : (m : ℕ) (words : Row) (hex : List ℕ) → None ≡ behind words (row_of_words (suc (suc m)) (hex ∷ []))
too_few m words hex = nothing words (row_word_of hex)

-- more words where one is needed
pub too_many : (words : Row) (parts : List (List ℕ)) → 2 ≤ length parts → None ≡ behind words (row_of_words 1 parts)
too_many words [] many = refl
too_many words (hex ∷ []) many = absurd (omega arith)
too_many words (hex ∷ next ∷ parts) many = nothing words (row_word_of hex)
