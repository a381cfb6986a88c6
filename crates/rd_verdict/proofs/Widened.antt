-- Lists that agree under some limits agree under the greatest.
use Rattle.std.proofs.Common.{◌≡◌, ℕ, zero, suc, ◌+◌, ◌<◌, ◌≤◌, Bool, true, false, cond, not, ◌||◌, List, [], ◌∷◌, length, Option, Some, None, refl, ap, ◌∙◌, arith}
use Rattle.std.specs.Prelude.{slice_get, nat_lt}
use Rattle.std.specs.List.{position, list_any}
use Rattle.std.proofs.lemmas.Bool.{ltb-false, le-ltb, or_parts, or_from}
use Rattle.rd_base.specs.Limits.{AreMaskLimits}
use Rattle.rd_base.specs.Token.{Token}
use Rattle.rd_base.specs.Verdicts.{verdict, verdict_from, fault, fault_or, masked_fault, plain_fault, or_fault, least_disagrees, masked_below, is_masked, is_soft, is_long, one_alone, token_at, longest}
use Rattle.rd_base.specs.declared.values.MaskLimits.{MaskLimits}
use Rattle.rd_base.specs.declared.verdict.Verdict.TheVariants.{Agreed, Noise}
use Rattle.rd_verdict.proofs.AgreedPlaces.{free_from}

abbrev greatest : MaskLimits
greatest = record { places = 64; bytes = 128 }

long_less : (most : MaskLimits) → AreMaskLimits most → (o : Option Token) → is_long most.bytes o ≡ false → is_long 128 o ≡ false
long_less most limits None e = refl
long_less most limits (Some t) e = le-ltb 128 (length t.text) (omega (arith, ltb-false most.bytes (length t.text) e, limits.bytes))

none_long : (most : MaskLimits) → AreMaskLimits most → (lists : List (List Token)) (place : ℕ) → list_any (λ tokens. is_long most.bytes (slice_get tokens place)) lists ≡ false → list_any (λ tokens. is_long 128 (slice_get tokens place)) lists ≡ false
none_long most limits [] place e = refl
none_long most limits (x ∷ lists) place e =
    let parts = or_parts (is_long most.bytes (slice_get x place)) (list_any (λ tokens. is_long most.bytes (slice_get tokens place)) lists) e in
    or_from (is_long 128 (slice_get x place)) (list_any (λ tokens. is_long 128 (slice_get tokens place)) lists) (long_less most limits (slice_get x place) parts.0) (none_long most limits lists place parts.1)

masked_wide : (most : MaskLimits) → AreMaskLimits most → (lists : List (List Token)) (place : ℕ) → masked_fault most lists place ≡ None → masked_fault greatest lists place ≡ None
masked_wide most limits lists place e = go (nat_lt most.places (length (masked_below lists (suc place))) || list_any (λ tokens. is_long most.bytes (slice_get tokens place)) lists) refl e
  where
    go : (t : Bool) → (nat_lt most.places (length (masked_below lists (suc place))) || list_any (λ tokens. is_long most.bytes (slice_get tokens place)) lists) ≡ t → cond t (Some (Noise place)) (least_disagrees place (position (λ tokens. not (is_soft (slice_get tokens place))) lists)) ≡ None → masked_fault greatest lists place ≡ None
    go true is e = absurd (cc e)
    go false is e =
        let parts = or_parts (nat_lt most.places (length (masked_below lists (suc place)))) (list_any (λ tokens. is_long most.bytes (slice_get tokens place)) lists) is in
        let few : nat_lt 64 (length (masked_below lists (suc place))) ≡ false = le-ltb 64 (length (masked_below lists (suc place))) (omega (arith, ltb-false most.places (length (masked_below lists (suc place))) parts.0, limits.places)) in
        let short = none_long most limits lists place parts.1 in
        let passes = or_from (nat_lt 64 (length (masked_below lists (suc place)))) (list_any (λ tokens. is_long 128 (slice_get tokens place)) lists) few short in
        ap (λ t. cond t (Some (Noise place)) (least_disagrees place (position (λ tokens. not (is_soft (slice_get tokens place))) lists))) passes ∙ e

fault_wide : (most : MaskLimits) → AreMaskLimits most → (lists : List (List Token)) (place : ℕ) → fault most lists place ≡ None → fault greatest lists place ≡ None
fault_wide most limits lists place e = alone (position (λ tokens. one_alone (slice_get tokens place) (token_at lists 0 place)) lists) e
  where
    either : (t : Bool) → cond t (masked_fault most lists place) (plain_fault lists place) ≡ None → cond t (masked_fault greatest lists place) (plain_fault lists place) ≡ None
    either true e = masked_wide most limits lists place e
    either false e = e

    alone : (o : Option ℕ) → or_fault (least_disagrees place o) (cond (is_masked lists place) (masked_fault most lists place) (plain_fault lists place)) ≡ None → or_fault (least_disagrees place o) (cond (is_masked lists place) (masked_fault greatest lists place) (plain_fault lists place)) ≡ None
    alone None e = either (is_masked lists place) e
    alone (Some copy) e = absurd (cc e)

-- the verdict over so many places without a fault
pub verdict_free : (most : MaskLimits) (lists : List (List Token)) (place count : ℕ) → ((p : ℕ) → place ≤ p → p < place + count → fault most lists p ≡ None) → verdict_from most lists place count ≡ Agreed (masked_below lists (place + count))
verdict_free most lists place zero none = let same_place : place ≡ place + 0 = omega arith in ap (λ p. Agreed (masked_below lists p)) same_place
verdict_free most lists place (suc count) none =
    let shift : suc place + count ≡ place + suc count = omega arith in
    ap (λ f. fault_or f (verdict_from most lists (suc place) count)) (none place (omega arith) (omega arith))
    ∙ verdict_free most lists (suc place) count (λ p low high. none p (omega arith) (omega arith))
    ∙ ap (λ p. Agreed (masked_below lists p)) shift

pub agreed_wide : (most : MaskLimits) (lists : List (List Token)) (mask : List ℕ) → AreMaskLimits most → verdict most lists ≡ Agreed mask → verdict (record { places = 64; bytes = 128 }) lists ≡ Agreed mask
agreed_wide most lists mask limits agreed =
    let free = free_from most lists 0 (longest lists) mask agreed in
    verdict_free greatest lists 0 (longest lists) (λ p low high. fault_wide most limits lists p (free.none p low high))
    ∙ ap Agreed free.masked
