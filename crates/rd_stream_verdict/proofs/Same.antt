-- Lists that have the same tokens below a place say the same there.
use Rattle.std.proofs.Common.{◌≡◌, ℕ, zero, suc, ◌+◌, ◌<◌, ◌≤◌, Bool, true, false, cond, List, [], ◌∷◌, ◌++◌, length, map, refl, ap, sym, ◌∙◌, arith}
use Rattle.std.proofs.lemmas.List.{map-append}
use Rattle.std.specs.Prelude.{filter}
use Rattle.std.specs.List.{list_all}
use Rattle.rd_base.specs.Token.{Token}
use Rattle.rd_base.specs.Swap.{is_row_word}
use Rattle.rd_base.specs.Verdicts.{verdict_from, fault, fault_or, masked_below, is_masked, text_or_none, texts_at, rows_at}
use Rattle.rd_base.specs.declared.values.MaskLimits.{MaskLimits}
use Rattle.rd_base.specs.declared.verdict.Verdict.TheVariants.{Agreed}
use Rattle.rd_stream_verdict.specs.Heads.{heads_masked, heads_fault}
use Rattle.rd_stream_verdict.proofs.ByHeads.{heads_at, masked_by, fault_by, texts_by}

-- the same tokens at each place below this one
pub record AreSame (q : ℕ) (xs ys : List (List Token)) : Type 0 where
  pub heads : (p : ℕ) → p < q → heads_at xs p ≡ heads_at ys p

masked_same : (q : ℕ) (xs ys : List (List Token)) (p : ℕ) → AreSame q xs ys → p < q → is_masked xs p ≡ is_masked ys p
masked_same q xs ys p s lt = masked_by xs p ∙ ap heads_masked (s.heads p lt) ∙ sym (masked_by ys p)

pub below_same : (q : ℕ) (xs ys : List (List Token)) (n : ℕ) → AreSame q xs ys → n ≤ q → masked_below xs n ≡ masked_below ys n
below_same q xs ys zero s le = refl
below_same q xs ys (suc n) s le =
    ap (λ ps. ps ++ cond (is_masked xs n) (n ∷ []) []) (below_same q xs ys n s (omega arith))
    ∙ ap (λ b. masked_below ys n ++ cond b (n ∷ []) []) (masked_same q xs ys n s (omega arith))

fault_same : (q : ℕ) (most : MaskLimits) (xs ys : List (List Token)) (p : ℕ) → AreSame q xs ys → p < q → fault most xs p ≡ fault most ys p
fault_same q most xs ys p s lt =
    fault_by most xs p
    ∙ ap (λ ps. heads_fault most p (length ps) (heads_at xs p)) (below_same q xs ys p s (omega arith))
    ∙ ap (heads_fault most p (length (masked_below ys p))) (s.heads p lt)
    ∙ sym (fault_by most ys p)

pub verdict_same : (q : ℕ) (most : MaskLimits) (xs ys : List (List Token)) (p n : ℕ) → AreSame q xs ys → p + n ≤ q → verdict_from most xs p n ≡ verdict_from most ys p n
verdict_same q most xs ys p zero s le = ap Agreed (below_same q xs ys p s (omega arith))
verdict_same q most xs ys p (suc n) s le =
    ap (λ f. fault_or f (verdict_from most xs (suc p) n)) (fault_same q most xs ys p s (omega arith))
    ∙ ap (fault_or (fault most ys p)) (verdict_same q most xs ys (suc p) n s (omega arith))

texts_same : (q : ℕ) (xs ys : List (List Token)) (n : ℕ) → AreSame q xs ys → n ≤ q → map (texts_at xs) (masked_below xs n) ≡ map (texts_at ys) (masked_below xs n)
texts_same q xs ys zero s le = refl
texts_same q xs ys (suc n) s le =
    map-append (texts_at xs) (masked_below xs n) (cond (is_masked xs n) (n ∷ []) [])
    ∙ ap (λ ts. ts ++ map (texts_at xs) (cond (is_masked xs n) (n ∷ []) [])) (texts_same q xs ys n s (omega arith))
    ∙ ap (λ ts. map (texts_at ys) (masked_below xs n) ++ ts) (go (is_masked xs n))
    ∙ sym (map-append (texts_at ys) (masked_below xs n) (cond (is_masked xs n) (n ∷ []) []))
  where
    go : (b : Bool) → map (texts_at xs) (cond b (n ∷ []) []) ≡ map (texts_at ys) (cond b (n ∷ []) [])
    go true = ap (λ ts. ts ∷ []) (texts_by xs n ∙ ap (map text_or_none) (s.heads n (omega arith)) ∙ sym (texts_by ys n))
    go false = refl

pub rows_same : (q : ℕ) (xs ys : List (List Token)) → AreSame q xs ys → rows_at xs (masked_below xs q) ≡ rows_at ys (masked_below xs q)
rows_same q xs ys s = ap (filter (list_all is_row_word)) (texts_same q xs ys q s (omega arith))
