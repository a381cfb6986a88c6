-- A line's bytes behind its colon.
use Rattle.std.proofs.Common.{◌≡◌, ℕ, ◌+◌, ◌-◌, ◌<◌, ◌≤◌, Bool, true, false, cond, List, [], ◌∷◌, ◌++◌, length, take, drop, get_or, drop-cons, drop-drop, take-add, refl, sym, ap, ◌∙◌, arith, length-drop}
use Rattle.std.specs.Prelude.{slice_range, ◌==◌}
use Rattle.std.proofs.lemmas.List.{take_all}
use Rattle.rd_http_tokens.specs.Tokens.{without_cr}

pub cr_last : (xs : List ℕ) (b : ℕ) → without_cr (xs ++ b ∷ []) ≡ cond (b == 13) xs (xs ++ b ∷ [])
cr_last [] b = refl
cr_last (x ∷ []) b = by (b == 13)
  where
    by : (t : Bool) → x ∷ cond t [] (b ∷ []) ≡ cond t (x ∷ []) (x ∷ b ∷ [])
    by true = refl
    by false = refl
cr_last (x ∷ y ∷ xs) b = ap (λ (t : List ℕ). x ∷ t) (cr_last (y ∷ xs) b) ∙ by (b == 13)
  where
    by : (t : Bool) → x ∷ cond t (y ∷ xs) (y ∷ (xs ++ b ∷ [])) ≡ cond t (x ∷ y ∷ xs) (x ∷ y ∷ (xs ++ b ∷ []))
    by true = refl
    by false = refl

slice_push : (body : List ℕ) (from end : ℕ) → from ≤ end → end < length body → slice_range body from (end + 1) ≡ slice_range body from end ++ get_or body end 0 ∷ []
slice_push body from end le lt =
    let size : (end + 1) - from ≡ (end - from) + 1 = omega arith in
    let place : from + (end - from) ≡ end = omega arith in
    ap (λ n. take n (drop from body)) size
    ∙ take-add (end - from) 1 (drop from body)
    ∙ ap (λ (t : List ℕ). slice_range body from end ++ take 1 t) (drop-drop (end - from) from body ∙ ap (λ n. drop n body) place ∙ drop-cons body end 0 lt)

pub raw_value : (line : List ℕ) (start : ℕ) → start < length line
    → without_cr (drop start line) ≡ cond (get_or line (length line - 1) 0 == 13) (slice_range line start (length line - 1)) (slice_range line start (length line))
raw_value line start lt =
    let last = length line - 1 in
    let b = get_or line last 0 in
    let size : last + 1 ≡ length line = omega arith in
    let all : slice_range line start (length line) ≡ drop start line = take_all (length line - start) (drop start line) (omega (arith, length-drop start line)) in
    let push : slice_range line start (length line) ≡ slice_range line start last ++ b ∷ [] = ap (λ n. slice_range line start n) (sym size) ∙ slice_push line start last (omega arith) (omega arith) in
    ap without_cr (sym all ∙ push) ∙ cr_last (slice_range line start last) b ∙ ap (λ (t : List ℕ). cond (b == 13) (slice_range line start last) t) (sym push)
