-- Lists that agree under some limits agree under larger ones, with the same mask.
use Rattle.std.proofs.Common.{◌≡◌, ℕ, zero, suc, ◌≤◌, Bool, true, false, cond, ◌||◌, List, [], ◌∷◌, length, Option, Some, None, refl, ap, ap₂, ◌∙◌, arith}
use Rattle.std.specs.Prelude.{slice_get, nat_lt, not}
use Rattle.std.specs.List.{position, list_any}
use Rattle.std.proofs.lemmas.Bool.Decides.{nat_tests}
use Rattle.rd_base.specs.Token.{Token}
use Rattle.rd_base.specs.Verdicts.{verdict, verdict_from, fault, fault_or, masked_fault, plain_fault, or_fault, least_disagrees, masked_below, is_masked, is_soft, is_long, one_alone, token_at, longest}
use Rattle.rd_base.specs.declared.values.MaskLimits.{MaskLimits}
use Rattle.rd_base.specs.declared.verdict.Verdict.{Verdict}
use Rattle.rd_base.specs.declared.verdict.Verdict.TheVariants.{Agreed, Noise}
use Rattle.rd_verdict.proofs.AgreedPlaces.{fault_not, no_fault}

either_false : (a b : Bool) → (a || b) ≡ false → (a ≡ false) × (b ≡ false)
either_false true b e = cc
either_false false b e = (refl, e)

lt_less : (few many n : ℕ) → few ≤ many → nat_lt few n ≡ false → nat_lt many n ≡ false
lt_less few many n le e = grind (arith, nat_tests)

long_less : (few many : ℕ) (t : Option Token) → few ≤ many → is_long few t ≡ false → is_long many t ≡ false
long_less few many (Some t) le e = lt_less few many (length t.text) le e
long_less few many None le e = refl

any_less : (few many place : ℕ) (lists : List (List Token)) → few ≤ many
    → list_any (λ tokens. is_long few (slice_get tokens place)) lists ≡ false → list_any (λ tokens. is_long many (slice_get tokens place)) lists ≡ false
any_less few many place [] le e = refl
any_less few many place (ts ∷ lists) le e =
    let both = either_false (is_long few (slice_get ts place)) (list_any (λ tokens. is_long few (slice_get tokens place)) lists) e in
    ap₂ (λ a b. a || b) (long_less few many (slice_get ts place) le both.0) (any_less few many place lists le both.1)

noise_none : (b : Bool) (place : ℕ) (rest : Option Verdict) → cond b (Some (Noise place)) rest ≡ None → (b ≡ false) × (rest ≡ None)
noise_none true place rest e = cc
noise_none false place rest e = (refl, e)

module _ (few many : MaskLimits) (places : few.places ≤ many.places) (bytes : few.bytes ≤ many.bytes) (lists : List (List Token)) where
  masked_none : (place : ℕ) → masked_fault few lists place ≡ None → masked_fault many lists place ≡ None
  masked_none place e =
      let n = length (masked_below lists (suc place)) in
      let least = least_disagrees place (position (λ tokens. not (is_soft (slice_get tokens place))) lists) in
      let quiet = noise_none (nat_lt few.places n || list_any (λ tokens. is_long few.bytes (slice_get tokens place)) lists) place least e in
      let both = either_false (nat_lt few.places n) (list_any (λ tokens. is_long few.bytes (slice_get tokens place)) lists) quiet.0 in
      let off : (nat_lt many.places n || list_any (λ tokens. is_long many.bytes (slice_get tokens place)) lists) ≡ false =
      ap₂ (λ a b. a || b) (lt_less few.places many.places n places both.0) (any_less few.bytes many.bytes place lists bytes both.1) in
      ap (λ b. cond b (Some (Noise place)) least) off ∙ quiet.1

  fault_none : (place : ℕ) → fault few lists place ≡ None → fault many lists place ≡ None
  fault_none place e = alone (least_disagrees place (position (λ tokens. one_alone (slice_get tokens place) (token_at lists 0 place)) lists)) e
    where
      either : (t : Bool) → cond t (masked_fault few lists place) (plain_fault lists place) ≡ None → cond t (masked_fault many lists place) (plain_fault lists place) ≡ None
      either true e = masked_none place e
      either false e = e

      alone : (o : Option Verdict) → or_fault o (cond (is_masked lists place) (masked_fault few lists place) (plain_fault lists place)) ≡ None → or_fault o (cond (is_masked lists place) (masked_fault many lists place) (plain_fault lists place)) ≡ None
      alone None e = either (is_masked lists place) e
      alone (Some v) e = cc

  agreed_from : (place count : ℕ) (mask : List ℕ) → verdict_from few lists place count ≡ Agreed mask → verdict_from many lists place count ≡ Agreed mask
  agreed_from place zero mask e = e
  agreed_from place (suc count) mask e =
      let here = no_fault (fault few lists place) (verdict_from few lists (suc place) count) mask (fault_not few lists place mask) e in
      ap (λ f. fault_or f (verdict_from many lists (suc place) count)) (fault_none place here.0) ∙ agreed_from (suc place) count mask here.1

  pub agreed_larger : (mask : List ℕ) → verdict few lists ≡ Agreed mask → verdict many lists ≡ Agreed mask
  agreed_larger mask e = agreed_from 0 (longest lists) mask e
