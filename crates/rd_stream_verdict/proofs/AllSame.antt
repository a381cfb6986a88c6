-- A place at which all copies have the same token.
use Rattle.std.proofs.Common.{◌≡◌, ℕ, zero, suc, ◌<◌, ◌≤◌, true, false, cond, not, ◌&&◌, List, [], ◌∷◌, length, replicate, Option, Some, None, refl, ap, ◌∙◌, arith}
use Rattle.std.specs.Prelude.{slice_get, IfSome}
use Rattle.std.specs.List.{position, list_all}
use Rattle.std.proofs.lemmas.Bool.{and_right}
use Rattle.rd_base.specs.Token.{Token}
use Rattle.rd_base.specs.Verdicts.{same, is_soft, one_alone, least_disagrees, or_fault}
use Rattle.rd_base.specs.declared.values.MaskLimits.{MaskLimits}
use Rattle.rd_base.specs.declared.verdict.Verdict.TheVariants.{Disagree}
use Rattle.rd_verdict.proofs.Alike.{same_self, position_not}
use Rattle.rd_stream_verdict.specs.Kept.{CopyKept}
use Rattle.rd_stream_verdict.specs.Heads.{heads_masked, heads_masked_fault, heads_plain_fault, heads_alone_fault, heads_fault, heads_row, heads_judged, judged_by}
use Rattle.rd_stream_verdict.specs.declared.judging.Judged.TheVariants.{Same}

-- the number of tokens that the copy was fed
pub fed_of : (k : ℕ) (cs : List CopyKept) → k < length cs → (p : ℕ) × IfSome (slice_get cs k) (λ c. p ≡ c.fed)
fed_of k [] lt = absurd (omega arith)
fed_of zero (c ∷ cs) lt = (c.fed, refl)
fed_of (suc k) (c ∷ cs) lt = fed_of k cs (omega arith)

all_are : (t : Token) (n : ℕ) → list_all (λ (head : Option Token). same head (Some t)) (replicate n (Some t)) ≡ true
all_are t zero = refl
all_are t (suc n) = ap (λ b. b && list_all (λ (head : Option Token). same head (Some t)) (replicate n (Some t))) (same_self (Some t)) ∙ all_are t n

not_alone : (t : Token) (head : Option Token) → same head (Some t) ≡ true → one_alone head (Some t) ≡ false
not_alone t None e = absurd (cc e)
not_alone t (Some u) e = refl

pub all_same : (most : MaskLimits) (place masked : ℕ) (t : Token) (n : ℕ) → 2 ≤ n → heads_judged most place masked (replicate n (Some t)) ≡ Same
all_same most place masked t zero two = absurd (omega arith)
all_same most place masked t (suc zero) two = absurd (omega arith)
all_same most place masked t (suc (suc n)) two =
    let heads : List (Option Token) = replicate (suc (suc n)) (Some t) in
    let first : Option Token = Some t in
    let all = all_are t (suc (suc n)) in
    let alone : heads_alone_fault place heads ≡ None = ap (least_disagrees place) (position_not (λ head. one_alone head first) (λ head. same head first) heads (not_alone t) all) in
    let other = position_not (λ head. not (same head first)) (λ head. same head first) heads (λ head e. ap not e) all in
    let no_mask : heads_masked heads ≡ false = ap (λ b. is_soft first && is_soft first && not b) (same_self first) ∙ and_right (is_soft first && is_soft first) false refl in
    let plain : heads_plain_fault place heads ≡ None =
    ap (λ b. cond b (least_disagrees place (position (λ head. not (same head first)) heads)) (Some (Disagree 1 place))) (same_self first)
    ∙ ap (least_disagrees place) other in
    let fault : heads_fault most place masked heads ≡ None =
    ap (λ o. or_fault o (cond (heads_masked heads) (heads_masked_fault most place masked heads) (heads_plain_fault place heads))) alone
    ∙ ap (λ b. cond b (heads_masked_fault most place masked heads) (heads_plain_fault place heads)) no_mask
    ∙ plain in
    ap (λ o. judged_by o (heads_masked heads) (heads_row heads)) fault ∙ ap (λ b. judged_by None b (heads_row heads)) no_mask
