-- Few places are masked.
use Rattle.std.proofs.Common.{◌≡◌, ℕ, zero, suc, ◌*◌, ◌≤◌, Bool, true, false, cond, List, [], ◌∷◌, ◌++◌, length, map, Option, Some, None, refl, sym, ap, subst, ◌∙◌, arith, append-nil, length-append}
use Rattle.std.specs.Prelude.{nat_lt, ◌||◌, not, slice_get, slice_index_or}
use Rattle.std.specs.List.{list_any, position}
use Rattle.std.proofs.lemmas.Bool.{ltb-false}
use Rattle.std.proofs.lemmas.List.{length-map}
use Rattle.std.proofs.lemmas.List.Sums.{sum_by-le}
use Rattle.rd_base.specs.History.{History}
use Rattle.rd_dialect.specs.Grammar.{Grammar}
use Rattle.rd_base.specs.declared.values.MaskLimits.{MaskLimits}
use Rattle.rd_base.specs.declared.values.Side.{Side}
use Rattle.rd_base.specs.declared.values.Side.TheVariants.{Incoming, Outgoing}
use Rattle.rd_base.specs.declared.verdict.Verdict.{Verdict}
use Rattle.rd_base.specs.declared.verdict.Verdict.TheVariants.{Agreed, Disagree, Noise}
use Rattle.rd_base.specs.Token.{Token}
use Rattle.rd_base.specs.Verdicts.{verdict_from, fault, fault_or, or_fault, masked_fault, plain_fault, masked_below, is_masked, mask_of, longest, is_long, least_disagrees, is_soft, one_alone, token_at}
use Rattle.rd_rules.specs.Exchange.{Rules, Ask, Exchange, Front, Reading, reading, read, asked, answered, ask_at, replies_at, after, released, out_list, start_front, LinkUnit}
use Rattle.rd_rules.specs.Given.{agreed_mask, ask_masked, replies_masked, ask_lists, reply_lists, masked_on}
use Rattle.rd_verdict.proofs.AgreedPlaces.{fault_not}

few_below : (most : MaskLimits) (lists : List (List Token)) (place : ℕ) → fault most lists place ≡ None → length (masked_below lists place) ≤ most.places → length (masked_below lists (suc place)) ≤ most.places
few_below most lists place none before = by (is_masked lists place) refl
  where
    second : (a b : Option Verdict) → or_fault a b ≡ None → b ≡ None
    second None b e = e
    second (Some v) b e = absurd (cc e)

    first : (a b : Bool) (v : Verdict) (d : Option Verdict) → cond (a || b) (Some v) d ≡ None → a ≡ false
    first true b v d e = absurd (cc e)
    first false b v d e = refl

    by : (t : Bool) → is_masked lists place ≡ t → length (masked_below lists (suc place)) ≤ most.places
    by true is =
        let masked : masked_fault most lists place ≡ None =
        sym (ap (λ t. cond t (masked_fault most lists place) (plain_fault lists place)) is)
        ∙ second (least_disagrees place (position (λ tokens. one_alone (slice_get tokens place) (token_at lists 0 place)) lists)) (cond (is_masked lists place) (masked_fault most lists place) (plain_fault lists place)) none in
        ltb-false most.places (length (masked_below lists (suc place)))
        (first (nat_lt most.places (length (masked_below lists (suc place)))) (list_any (λ tokens. is_long most.bytes (slice_get tokens place)) lists)
        (Noise place) (least_disagrees place (position (λ tokens. not (is_soft (slice_get tokens place))) lists)) masked)
    by false is = subst (λ (xs : List ℕ). length xs ≤ most.places) (sym (ap (λ t. masked_below lists place ++ cond t (place ∷ []) []) is ∙ append-nil (masked_below lists place))) before

few_from : (most : MaskLimits) (lists : List (List Token)) (place count : ℕ) → length (masked_below lists place) ≤ most.places → length (mask_of (verdict_from most lists place count)) ≤ most.places
few_from most lists place zero before = before
few_from most lists place (suc count) before = by (fault most lists place) refl (few_from most lists (suc place) count)
  where
    by : (f : Option Verdict) → fault most lists place ≡ f → (length (masked_below lists (suc place)) ≤ most.places → length (mask_of (verdict_from most lists (suc place) count)) ≤ most.places)
        → length (mask_of (fault_or f (verdict_from most lists (suc place) count))) ≤ most.places
    by None e ih = ih (few_below most lists place e before)
    by (Some (Agreed mask)) e ih = absurd (fault_not most lists place mask e)
    by (Some (Disagree copy at)) e ih = omega arith
    by (Some (Noise at)) e ih = omega arith

few_agreed : (most : MaskLimits) (lists : List (List Token)) → length (agreed_mask most lists) ≤ most.places
few_agreed most [] = omega arith
few_agreed most (a ∷ []) = omega arith
few_agreed most (a ∷ b ∷ []) = omega arith
few_agreed most (a ∷ b ∷ c ∷ more) = few_from most (a ∷ b ∷ c ∷ more) 0 (longest (a ∷ b ∷ c ∷ more)) (omega arith)

-- ---- and few exchanges are read

few_done : (g : Grammar) (most : MaskLimits) (n : ℕ) (p : Front) → length (released (read g most n p)) ≤ n
few_done g most zero p = omega arith
few_done g most (suc n) p = by_ask (few_done g most n) (ask_at g most p)
  where
    Later : Type 0
    Later = (q : Front) → length (released (read g most n q)) ≤ n

    by_replies : Later → (a : Ask) (c : Option (List LinkUnit)) → length (released (answered g (λ q. read g most n q) p a c)) ≤ suc n
    by_replies ih a None = omega arith
    by_replies ih a (Some replies) = let later = ih (after g p (record { ask = a; replies = replies })) in omega (arith, later)

    by_ask : Later → (c : Option Ask) → length (released (asked g most (λ q. read g most n q) p c)) ≤ suc n
    by_ask ih None = omega arith
    by_ask ih (Some a) = by_replies ih a (replies_at g most p a)

-- no more places than 64 of each are masked in all that is agreed
pub few_masked : (r : Rules) (h : History) → r.limits.mask.places ≤ 64 → masked_on r.side r (reading r h) ≤ r.limits.exchanges_max * 64
few_masked r h few = by r.side
  where
    now : Reading
    now = reading r h

    all : length (released now) ≤ r.limits.exchanges_max
    all = few_done r.grammar r.limits.mask r.limits.exchanges_max (start_front r h)

    done : length now.done ≤ length (released now)
    done = rw (length-append (map (λ (x : Exchange). x.ask) now.done) (out_list now.out), length-map now.done (λ (x : Exchange). x.ask)) (omega arith)

    by : (side : Side) → masked_on side r now ≤ r.limits.exchanges_max * 64
    by Incoming =
        let each = sum_by-le (replies_masked r) 64 now.done (λ k d lt. let here = few_agreed r.limits.mask (reply_lists r (slice_index_or now.done k d)) in omega (arith, here, few)) in
        omega (arith, each, all, done)
    by Outgoing =
        let each = sum_by-le (ask_masked r) 64 (released now) (λ k d lt. let here = few_agreed r.limits.mask (ask_lists r (slice_index_or (released now) k d)) in omega (arith, here, few)) in
        omega (arith, each, all)
