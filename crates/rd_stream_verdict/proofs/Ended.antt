-- What is found with an end.
use Rattle.std.proofs.Common.{◌≡◌, ℕ, zero, suc, ◌+◌, ◌<◌, ◌≤◌, Bool, true, false, cond, not, List, [], ◌∷◌, length, map, get_or, Option, Some, None, refl, ap, sym, subst, ◌∙◌, inl, inr, zero-add, arith}
use Rattle.std.specs.Prelude.{slice_get, nat_lt}
use Rattle.std.specs.List.{All, position, position_or_len}
use Rattle.std.proofs.lemmas.Bool.{cases_lt, ltb-false, not-true}
use Rattle.std.proofs.lemmas.List.{get_or-set_same, length-set, length-map}
use Rattle.std.proofs.lemmas.List.Sums.{prefix_len_passes}
use Rattle.std.proofs.lemmas.List.Quantifiers.{position-Some}
use Rattle.std.proofs.lemmas.Option.{slice_get_past}
use Rattle.rd_base.specs.Token.{Token}
use Rattle.rd_base.specs.Heard.{Heard, lists_of, judged_places, early_verdict}
use Rattle.rd_base.specs.Verdicts.{verdict_from, fault, fault_or, or_fault, least_disagrees, one_alone, masked_below, masked_fault, plain_fault, is_masked, is_agreed, longest}
use Rattle.rd_base.specs.declared.values.MaskLimits.{MaskLimits}
use Rattle.rd_base.specs.declared.verdict.Verdict.{Verdict}
use Rattle.rd_base.specs.declared.verdict.Verdict.TheVariants.{Agreed}
use Rattle.rd_stream_verdict.specs.Said.{with_end}
use Rattle.rd_stream_verdict.specs.Kept.{CopyKept, kept_of}
use Rattle.rd_stream_verdict.specs.Heads.{only_behind, heads_with, head_at, heads_alone_fault}
use Rattle.rd_stream_verdict.proofs.Reached.{judged_least, judged_most, end_lists, end_more, behind_end}
use Rattle.rd_stream_verdict.proofs.ByHeads.{heads_at, alone_by}
use Rattle.rd_stream_verdict.proofs.Further.{verdict_next, verdict_stays}
use Rattle.rd_stream_verdict.proofs.KeptCopies.{heads_end}

-- no copy has a token
abbrev pub Nones : List (Option Token) → Type 0
Nones [] = Unit {0}
Nones (o ∷ heads) = (o ≡ None) × Nones heads

short_nones : (q : ℕ) (lists : List (List Token)) → longest lists ≤ q → Nones (heads_at lists q)
short_nones q [] le = tt
short_nones q (tokens ∷ lists) le = (slice_get_past tokens q (omega arith), short_nones q lists (omega arith))

get_none : (xs : List Token) (q : ℕ) → slice_get xs q ≡ None → length xs ≤ q
get_none [] q e = omega arith
get_none (x ∷ xs) zero e = absurd (cc e)
get_none (x ∷ xs) (suc q) e = omega (arith, get_none xs q e)

nones_short : (q : ℕ) (lists : List (List Token)) → Nones (heads_at lists q) → longest lists ≤ q
nones_short q [] none = omega arith
nones_short q (tokens ∷ lists) none = omega (arith, get_none tokens q none.0, nones_short q lists none.1)

nones_at : (heads : List (Option Token)) (i : ℕ) (d : Option Token) → Nones heads → i < length heads → get_or heads i d ≡ None
nones_at [] i d none lt = absurd (omega arith)
nones_at (o ∷ heads) zero d none lt = none.0
nones_at (o ∷ heads) (suc i) d none lt = nones_at heads i d none.1 (omega arith)

nones_first : (heads : List (Option Token)) → Nones heads → head_at heads 0 ≡ None
nones_first [] none = refl
nones_first (o ∷ heads) none = none.0

nones_alone : (p : ℕ) (heads : List (Option Token)) → Nones heads → heads_alone_fault p heads ≡ None
nones_alone p heads none = go (position (λ head. one_alone head (head_at heads 0)) heads) refl
  where
    never : (a b : Option Token) → a ≡ None → b ≡ None → one_alone a b ≡ true → ⊥
    never None None e f g = cc g
    never None (Some b) e f g = cc f
    never (Some a) b e f g = cc e

    go : (o : Option ℕ) → position (λ head. one_alone head (head_at heads 0)) heads ≡ o → least_disagrees p o ≡ None
    go None is = refl
    go (Some i) is =
        let found = position-Some (λ head. one_alone head (head_at heads 0)) heads i None is in
        absurd (never (get_or heads i None) (head_at heads 0) (nones_at heads i None none found.0) (nones_first heads none) found.1)

pub position_none : {X : Type 0} (p : X → Bool) (xs : List X) → position p xs ≡ None → All (λ x. p x ≡ false) xs
position_none p xs e = λ k d lt. not-true (p (get_or xs k d)) (prefix_len_passes (λ x. not (p x)) xs k d (omega (arith, ltb-false (position_or_len p xs) (length xs) (short (nat_lt (position_or_len p xs) (length xs)) e))))
  where
    short : (t : Bool) → cond t (Some (position_or_len p xs)) None ≡ None → t ≡ false
    short true e = absurd (cc e)
    short false e = refl

alone_all : (a : Option Token) → a ≡ None → (heads : List (Option Token)) → All (λ head. one_alone head a ≡ false) heads → Nones heads
alone_all a is [] all = tt
alone_all a is (o ∷ heads) all = (go o a is (all 0 o (omega arith)), alone_all a is heads (λ k d lt. all (suc k) d (omega arith)))
  where
    go : (o a : Option Token) → a ≡ None → one_alone o a ≡ false → o ≡ None
    go None a is e = refl
    go (Some t) None is e = absurd (cc e)
    go (Some t) (Some u) is e = absurd (cc is)

alone_nones : (p k : ℕ) (heads : List (Option Token)) → k < length heads → get_or heads k None ≡ None → heads_alone_fault p heads ≡ None → Nones heads
alone_nones p k heads lt here none =
    let all = position_none (λ head. one_alone head (head_at heads 0)) heads (least (position (λ head. one_alone head (head_at heads 0)) heads) none) in
    alone_all (head_at heads 0) (first (get_or heads k None) (head_at heads 0) here (all k None lt)) heads all
  where
    least : (o : Option ℕ) → least_disagrees p o ≡ None → o ≡ None
    least None e = refl
    least (Some copy) e = absurd (cc e)

    first : (o a : Option Token) → o ≡ None → one_alone o a ≡ false → a ≡ None
    first None None e f = refl
    first None (Some t) e f = absurd (cc f)
    first (Some t) a e f = absurd (cc e)

-- ---- the copy that alone was behind has no more tokens

-- no other copy has a token: no place more is judged
pub end_none : (k : ℕ) (h : List Heard) → only_behind k (map (kept_of true (judged_places h)) h) ≡ true → k < length (map (kept_of true (judged_places h)) h) → heads_alone_fault (judged_places h) (heads_with k None (map (kept_of true (judged_places h)) h)) ≡ None → judged_places (with_end k h) ≡ judged_places h
end_none k h only lt none =
    let q = judged_places h in
    let copies = map (kept_of true q) h in
    let firsts = map (λ (c : CopyKept). slice_get c.waiting 0) copies in
    let count : length firsts ≡ length copies = length-map copies (λ c. slice_get c.waiting 0) in
    let there : k < length (heads_with k None copies) = omega (arith, length-set firsts k None, count) in
    let here : get_or (heads_with k None copies) k None ≡ None = get_or-set_same firsts k None None (omega (arith, count)) in
    let nones = alone_nones q k (heads_with k None copies) there here none in
    let at : Nones (heads_at (lists_of h) q) = subst Nones (heads_end k q h only) nones in
    let short = nones_short q (lists_of h) at in
    let less = judged_least (longest (lists_of (with_end k h))) (with_end k h) in
    omega (arith, short, less, ap longest (end_lists k h), end_more k h)

-- another has one: the place is judged, and shows this fault
pub end_alone : (most : MaskLimits) (k : ℕ) (h : List Heard) (v : Verdict) → is_agreed (early_verdict most h) ≡ true → only_behind k (map (kept_of true (judged_places h)) h) ≡ true → heads_alone_fault (judged_places h) (heads_with k None (map (kept_of true (judged_places h)) h)) ≡ Some v → is_agreed v ≡ false → early_verdict most (with_end k h) ≡ v
end_alone most k h v agreed only is fault_is =
    let q = judged_places h in
    let xs = lists_of h in
    let alone : heads_alone_fault q (heads_at xs q) ≡ Some v = ap (heads_alone_fault q) (sym (heads_end k q h only)) ∙ is in
    let here : fault most xs q ≡ Some v = ap (λ a. or_fault a (cond (is_masked xs q) (masked_fault most xs q) (plain_fault xs q))) (alone_by xs q ∙ alone) in
    let next : verdict_from most xs 0 (suc q) ≡ v =
    verdict_next most xs 0 q agreed
    ∙ ap (λ p. fault_or (fault most xs p) (Agreed (masked_below xs (suc p)))) (zero-add q)
    ∙ ap (λ f. fault_or f (Agreed (masked_below xs (suc q)))) here in
    let long : q + 1 ≤ longest xs = elim (cases_lt q (longest xs)) [ inl lt ↦ omega arith | inr le ↦ absurd (both (heads_alone_fault q (heads_at xs q)) v alone (nones_alone q (heads_at xs q) (short_nones q xs le))) ] in
    let further : q + 1 ≤ judged_places (with_end k h) = judged_most (longest (lists_of (with_end k h))) (with_end k h) (q + 1) (omega (arith, ap longest (end_lists k h), long)) (behind_end k q h only) in
    ap (λ ls. verdict_from most ls 0 (judged_places (with_end k h))) (end_lists k h)
    ∙ verdict_stays most xs 0 (suc q) (judged_places (with_end k h)) (omega (arith, further)) (ap is_agreed next ∙ fault_is)
    ∙ next
  where
    both : (f : Option Verdict) (v : Verdict) → f ≡ Some v → f ≡ None → ⊥
    both f v e g = let h = sym e ∙ g in cc h

pub end_same : (most : MaskLimits) (k : ℕ) (h : List Heard) → judged_places (with_end k h) ≡ judged_places h → early_verdict most (with_end k h) ≡ early_verdict most h
end_same most k h judged =
    ap (λ ls. verdict_from most ls 0 (judged_places (with_end k h))) (end_lists k h) ∙ ap (verdict_from most (lists_of h) 0) judged

pub end_fault : (most : MaskLimits) (k : ℕ) (h : List Heard) → is_agreed (early_verdict most h) ≡ false → early_verdict most (with_end k h) ≡ early_verdict most h
end_fault most k h fault_is =
    ap (λ ls. verdict_from most ls 0 (judged_places (with_end k h))) (end_lists k h)
    ∙ verdict_stays most (lists_of h) 0 (judged_places h) (judged_places (with_end k h)) (end_more k h) fault_is
