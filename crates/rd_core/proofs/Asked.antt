-- Words that are added one by one, each once, and the first 4,096.
use Rattle.std.proofs.Common.{◌≡◌, ℕ, ◌+◌, ◌<◌, ◌≤◌, Bool, true, false, cond, List, [], ◌∷◌, ◌++◌, length, take, drop, refl, sym, ap, ◌∙◌, arith, length-append, append-nil, get_or}
use Rattle.std.specs.Prelude.{fold, filter, bytes_eq, nat_le}
use Rattle.std.specs.List.{list_any}
use Rattle.std.proofs.lemmas.Bool.Decides.{nat_tests}
use Rattle.std.proofs.lemmas.List.{length-take, length-take-le, take-append-le, take_all, take_more}
use Rattle.std.proofs.lemmas.List.Sums.{fold-append}
use Rattle.std.proofs.lemmas.List.Elements.{filter-append}
use Rattle.std.specs.List.{flat_map}
use Rattle.rd_rules.specs.Given.{Release}
use Rattle.rd_rules.specs.Step.{sent_before}
use Rattle.rd_rules.specs.Wanted.{add_word}

abbrev Texts : Type 0
Texts = List (List ℕ)

abbrev has : Texts → List ℕ → Bool
has words word = list_any (λ other. bytes_eq other word) words

pub full_add : (n : ℕ) (words : Texts) (word : List ℕ) → length words ≡ n → words ≡ take n (add_word words word)
full_add n words word full = by (has words word)
  where
    by : (b : Bool) → words ≡ take n (cond b words (words ++ word ∷ []))
    by true = sym (take_all n words (omega (arith, full)))
    by false = sym (take-append-le n words (word ∷ []) (omega (arith, full)) ∙ take_all n words (omega (arith, full)))

pub had_add : (n : ℕ) (words : Texts) (word : List ℕ) → length words ≤ n → has words word ≡ true → words ≡ take n (add_word words word)
had_add n words word le is = sym (ap (λ b. take n (cond b words (words ++ word ∷ []))) is ∙ take_all n words le)

pub new_add : (n : ℕ) (words : Texts) (word : List ℕ) → length words < n → has words word ≡ false → words ++ word ∷ [] ≡ take n (add_word words word)
new_add n words word lt is =
    sym (ap (λ b. take n (cond b words (words ++ word ∷ []))) is ∙ take_all n (words ++ word ∷ []) (rw (length-append words (word ∷ [])) (omega (arith, lt))))

-- what stands past the first n doesn't matter to them
take_add : (n : ℕ) (words : Texts) (word : List ℕ) → take n (add_word (take n words) word) ≡ take n (add_word words word)
take_add n words word = by (nat_le (length words) n) refl
  where
    kept : n ≤ length words → (b : Bool) → take n (cond b words (words ++ word ∷ [])) ≡ take n words
    kept le true = refl
    kept le false = take-append-le n words (word ∷ []) le

    by : (b : Bool) → nat_le (length words) n ≡ b → take n (add_word (take n words) word) ≡ take n (add_word words word)
    by true e = ap (λ ws. take n (add_word ws word)) (take_all n words (grind (arith, nat_tests)))
    by false e =
        let le : n ≤ length words = grind (arith, nat_tests) in
        sym (full_add n (take n words) word (length-take-le n words le)) ∙ sym (kept le (has words word))

pub fold_take : (n : ℕ) (words more : Texts) → take n (fold add_word (take n words) more) ≡ take n (fold add_word words more)
fold_take n words [] = take_all n (take n words) (rw (length-take n words) (omega arith))
fold_take n words (word ∷ more) =
    sym (fold_take n (add_word (take n words) word) more)
    ∙ ap (λ ws. take n (fold add_word ws more)) (take_add n words word)
    ∙ fold_take n (add_word words word) more

-- words that are added in two parts
pub fold_parts : (n : ℕ) (words first second : Texts) → take n (fold add_word (take n (fold add_word words first)) second) ≡ take n (fold add_word words (first ++ second))
fold_parts n words first second = fold_take n (fold add_word words first) second ∙ ap (take n) (sym (fold-append add_word words first second))

-- one more of those that pass a test
pub asked_more : (n : ℕ) (test : List ℕ → Bool) (start now next asked : Texts) (i : ℕ) (d : List ℕ) → i < length asked
    → now ≡ take n (fold add_word start (filter test (take i asked))) → next ≡ take n (fold add_word now (filter test (get_or asked i d ∷ [])))
    → next ≡ take n (fold add_word start (filter test (take (i + 1) asked)))
asked_more n test start now next asked i d lt now_is next_is =
    let word = get_or asked i d in
    next_is
    ∙ ap (λ ws. take n (fold add_word ws (filter test (word ∷ [])))) now_is
    ∙ fold_parts n start (filter test (take i asked)) (filter test (word ∷ []))
    ∙ ap (λ ws. take n (fold add_word start ws)) (sym (filter-append test (take i asked) (word ∷ [])) ∙ ap (filter test) (sym (take_more asked i d lt)))

-- a word that doesn't pass adds nothing
pub none_passes : (n : ℕ) (words : Texts) (word : List ℕ) (test : Bool) → length words ≤ n → test ≡ false → words ≡ take n (fold add_word words (cond test (word ∷ []) []))
none_passes n words word test le is = sym (ap (λ b. take n (fold add_word words (cond b (word ∷ []) []))) is ∙ take_all n words le)

pub length-taken : (n : ℕ) (words all : Texts) → words ≡ take n all → length words ≤ n
length-taken n words all is = rw (is, length-take n all) (omega arith)

-- the words of a first request, which may be skipped, and those of further ones
pub words_step : (n : ℕ) (f : Release → Texts) (skips : Bool) (words : Texts) (rel : Release) (rels : List Release)
    → take n (fold add_word (take n (fold add_word words (flat_map f (drop (sent_before skips) (rel ∷ []))))) (flat_map f rels)) ≡ take n (fold add_word words (flat_map f (drop (sent_before skips) (rel ∷ rels))))
words_step n f true words rel rels = fold_take n words (flat_map f rels)
words_step n f false words rel rels =
    fold_parts n words (f rel ++ []) (flat_map f rels)
    ∙ ap (λ ws. take n (fold add_word words (ws ++ flat_map f rels))) (append-nil (f rel))

pub no_words : (n : ℕ) (f : Release → Texts) (skips : Bool) (words : Texts) → length words ≤ n → take n (fold add_word words (flat_map f (drop (sent_before skips) []))) ≡ words
no_words n f true words le = take_all n words le
no_words n f false words le = take_all n words le
