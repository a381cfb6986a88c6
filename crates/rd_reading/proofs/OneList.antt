-- Copies that say nothing but what one list of tokens says.
use Rattle.std.proofs.Common.{◌≡◌, ℕ, zero, suc, ◌+◌, ◌<◌, ◌≤◌, min, Bool, true, false, cond, ◌&&◌, List, [], ◌∷◌, ◌++◌, length, Option, None, refl, sym, ap, ◌∙◌, append-nil, arith}
use Rattle.std.proofs.lemmas.List.{length-map}
use Rattle.std.specs.Prelude.{slice_get}
use Rattle.std.specs.List.{list_all}
use Rattle.rd_base.specs.Token.{Token}
use Rattle.rd_base.specs.Heard.{Heard, lists_of, judged_of, judged_places, early_verdict}
use Rattle.rd_base.specs.Verdicts.{fault, masked_below, is_masked, same, token_at, longest}
use Rattle.rd_base.specs.declared.values.MaskLimits.{MaskLimits}
use Rattle.rd_base.specs.declared.verdict.Verdict.TheVariants.{Agreed}
use Rattle.rd_verdict.proofs.Alike.{same_self, alike_no_fault}
use Rattle.rd_verdict.proofs.Widened.{verdict_free}
use Rattle.rd_dialect.specs.Laws.{IsFront}

pub front-self : {X : Type 0} (xs ys : List X) → xs ≡ ys → IsFront xs ys
front-self xs ys same = record { rest = []; is = append-nil xs ∙ same }

-- each copy's tokens begin this list, and those of a whole one are this list
abbrev pub AllWithin : List Token → List Heard → Type 0
AllWithin ts [] = Unit {0}
AllWithin ts (c ∷ cs) = (IsFront c.tokens ts × (c.is_whole ≡ true → c.tokens ≡ ts)) × AllWithin ts cs

-- ---- places at which all copies have the same token, or none

abbrev EachHas : Option Token → ℕ → List Heard → Type 0
EachHas o p [] = Unit {0}
EachHas o p (c ∷ cs) = (slice_get c.tokens p ≡ o) × EachHas o p cs

each_same : (o : Option Token) (p : ℕ) (cs : List Heard) → EachHas o p cs → list_all (λ tokens. same (slice_get tokens p) o) (lists_of cs) ≡ true
each_same o p [] has = refl
each_same o p (c ∷ cs) has =
    let rest = list_all (λ tokens. same (slice_get tokens p) o) (lists_of cs) in
    ap (λ t. same t o && rest) has.0 ∙ ap (λ b. b && rest) (same_self o) ∙ each_same o p cs has.1

quiet_at : (most : MaskLimits) (o : Option Token) (p : ℕ) (cs : List Heard) → 2 ≤ length cs → EachHas o p cs → (fault most (lists_of cs) p ≡ None) × (is_masked (lists_of cs) p ≡ false)
quiet_at most o p [] two has = absurd (omega arith)
quiet_at most o p (c ∷ cs) two has =
    let lists = lists_of (c ∷ cs) in
    let first : token_at lists 0 p ≡ o = has.0 in
    let all : list_all (λ tokens. same (slice_get tokens p) (token_at lists 0 p)) lists ≡ true =
    ap (λ t. list_all (λ tokens. same (slice_get tokens p) t) lists) first ∙ each_same o p (c ∷ cs) has in
    let size = length-map cs (λ (h : Heard). h.tokens) in
    alike_no_fault most lists p (omega arith) all

-- ---- a judged place: each copy has the list's token there

get_front : {X : Type 0} (xs ys : List X) (p : ℕ) → p < length xs → slice_get (xs ++ ys) p ≡ slice_get xs p
get_front [] ys p lt = absurd (omega arith)
get_front (x ∷ xs) ys zero lt = refl
get_front (x ∷ xs) ys (suc p) lt = get_front xs ys p (omega arith)

judged_of-most : (n : ℕ) (hs : List Heard) → judged_of n hs ≤ n
judged_of-most n [] = omega arith
judged_of-most n (h ∷ hs) =
    let next = judged_of-most (cond h.is_whole n (min n (length h.tokens))) hs in
    let here = step_least h.is_whole n (length h.tokens) in
    omega arith
  where
    step_least : (w : Bool) (m k : ℕ) → cond w m (min m k) ≤ m
    step_least true m k = omega arith
    step_least false m k = omega arith

within_has : (ts : List Token) (cs : List Heard) (m p : ℕ) → p < judged_of m cs → AllWithin ts cs → EachHas (slice_get ts p) p cs
within_has ts [] m p lt all = tt
within_has ts (c ∷ cs) m p lt all = (here c.is_whole refl, within_has ts cs (cond c.is_whole m (min m (length c.tokens))) p lt all.1)
  where
    here : (w : Bool) → c.is_whole ≡ w → slice_get c.tokens p ≡ slice_get ts p
    here true is = ap (λ us. slice_get us p) (all.0.1 is)
    here false is =
        let next : judged_of (cond c.is_whole m (min m (length c.tokens))) cs ≡ judged_of (min m (length c.tokens)) cs = ap (λ w. judged_of (cond w m (min m (length c.tokens))) cs) is in
        let bound = judged_of-most (min m (length c.tokens)) cs in
        sym (get_front c.tokens all.0.0.rest p (omega arith)) ∙ ap (λ us. slice_get us p) all.0.0.is

-- ---- the verdict

masked_below-none : (lists : List (List Token)) (n : ℕ) → ((p : ℕ) → p < n → is_masked lists p ≡ false) → masked_below lists n ≡ []
masked_below-none lists zero none = refl
masked_below-none lists (suc n) none =
    ap (λ ps. ps ++ cond (is_masked lists n) (n ∷ []) []) (masked_below-none lists n (λ p lt. none p (omega arith)))
    ∙ ap (λ b. cond b (n ∷ []) []) (none n (omega arith))

pub early_verdict-within : (most : MaskLimits) (ts : List Token) (cs : List Heard) → 2 ≤ length cs → AllWithin ts cs → early_verdict most cs ≡ Agreed []
early_verdict-within most ts cs two all =
    let q = judged_places cs in
    let quiet : (p : ℕ) → p < q → (fault most (lists_of cs) p ≡ None) × (is_masked (lists_of cs) p ≡ false) =
    λ p lt. quiet_at most (slice_get ts p) p cs two (within_has ts cs (longest (lists_of cs)) p lt all) in
    let start : 0 + q ≡ q = omega arith in
    verdict_free most (lists_of cs) 0 q (λ p low high. (quiet p (omega arith)).0)
    ∙ ap (λ n. Agreed (masked_below (lists_of cs) n)) start
    ∙ ap Agreed (masked_below-none (lists_of cs) q (λ p lt. (quiet p lt).1))
