-- A masked place without a fault.
use Rattle.std.proofs.Common.{◌≡◌, ℕ, ◌<◌, Bool, true, false, cond, not, ◌||◌, List, get_or, Option, Some, None, refl, arith}
use Rattle.std.specs.Prelude.{nat_le}
use Rattle.std.specs.List.{All, position, list_any}
use Rattle.std.proofs.lemmas.Bool.{or_parts}
use Rattle.std.proofs.lemmas.Bool.Decides.{nat_tests}
use Rattle.rd_base.specs.Token.{Token}
use Rattle.rd_base.specs.Verdicts.{is_soft, is_long, least_disagrees, or_fault}
use Rattle.rd_base.specs.declared.values.MaskLimits.{MaskLimits}
use Rattle.rd_base.specs.declared.verdict.Verdict.{Verdict}
use Rattle.rd_base.specs.declared.verdict.Verdict.TheVariants.{Noise}
use Rattle.rd_stream_verdict.specs.Heads.{heads_fault, heads_masked, heads_alone_fault, heads_masked_fault, heads_plain_fault}
use Rattle.rd_stream_verdict.proofs.Ended.{position_none}

-- fewer places than the limit are masked below, and each copy has a Soft token
pub record IsMaskable (most : MaskLimits) (masked : ℕ) (heads : List (Option Token)) : Type 0 where
  pub room : masked < most.places
  pub soft : All (λ head. is_soft head ≡ true) heads

room_left : (most masked : ℕ) → nat_le most masked ≡ false → masked < most
room_left most masked e = grind (arith, nat_tests)

not_false : (b : Bool) → not b ≡ false → b ≡ true
not_false true e = refl
not_false false e = absurd (cc e)

masked_none : (most : MaskLimits) (place masked : ℕ) (heads : List (Option Token)) → heads_masked_fault most place masked heads ≡ None → IsMaskable most masked heads
masked_none most place masked heads e = go (nat_le most.places masked || list_any (is_long most.bytes) heads) refl e
  where
    least : (o : Option ℕ) → least_disagrees place o ≡ None → o ≡ None
    least None e = refl
    least (Some copy) e = absurd (cc e)

    go : (b : Bool) → (nat_le most.places masked || list_any (is_long most.bytes) heads) ≡ b → cond b (Some (Noise place)) (least_disagrees place (position (λ head. not (is_soft head)) heads)) ≡ None → IsMaskable most masked heads
    go true is e = absurd (cc e)
    go false is e =
        let parts = or_parts (nat_le most.places masked) (list_any (is_long most.bytes) heads) is in
        let all = position_none (λ head. not (is_soft head)) heads (least (position (λ head. not (is_soft head)) heads) e) in
        record {
          room = room_left most.places masked parts.0;
          soft = λ k d lt. not_false (is_soft (get_or heads k d)) (all k d lt);
        }

pub maskable : (most : MaskLimits) (place masked : ℕ) (heads : List (Option Token)) → heads_fault most place masked heads ≡ None → heads_masked heads ≡ true → IsMaskable most masked heads
maskable most place masked heads e is = alone (heads_alone_fault place heads) e
  where
    either : (b : Bool) → b ≡ true → cond b (heads_masked_fault most place masked heads) (heads_plain_fault place heads) ≡ None → heads_masked_fault most place masked heads ≡ None
    either true is e = e
    either false is e = absurd (cc is)

    alone : (a : Option Verdict) → or_fault a (cond (heads_masked heads) (heads_masked_fault most place masked heads) (heads_plain_fault place heads)) ≡ None → IsMaskable most masked heads
    alone None e = masked_none most place masked heads (either (heads_masked heads) is e)
    alone (Some v) e = absurd (cc e)
