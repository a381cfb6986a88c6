-- What is found with a token more.
use Rattle.std.proofs.Common.{◌≡◌, ℕ, suc, true, false, cond, List, [], ◌∷◌, ◌++◌, length, map, Some, ap, sym, ◌∙◌, zero-add, arith}
use Rattle.rd_base.specs.Token.{Token}
use Rattle.rd_base.specs.Heard.{Heard, lists_of, judged_places, early_verdict}
use Rattle.rd_base.specs.Verdicts.{verdict_from, fault, fault_or, masked_below, is_masked, is_agreed, longest}
use Rattle.rd_base.specs.declared.values.MaskLimits.{MaskLimits}
use Rattle.rd_base.specs.declared.verdict.Verdict.TheVariants.{Agreed}
use Rattle.rd_stream_verdict.specs.Said.{with_token}
use Rattle.rd_stream_verdict.specs.Kept.{kept_of}
use Rattle.rd_stream_verdict.specs.Heads.{only_behind, heads_with, heads_masked, heads_fault}
use Rattle.rd_stream_verdict.proofs.Reached.{IsOpen, judged_in, judged_behind, judged_other, token_more}
use Rattle.rd_stream_verdict.proofs.ByHeads.{heads_at, masked_by, fault_by}
use Rattle.rd_stream_verdict.proofs.Same.{AreSame, below_same, verdict_same}
use Rattle.rd_stream_verdict.proofs.Further.{verdict_next, verdict_stays, verdict_agreed}
use Rattle.rd_stream_verdict.proofs.KeptCopies.{heads_token, same_token}

pub masked_so_far : (most : MaskLimits) (h : List Heard) (mask : List ℕ) → early_verdict most h ≡ Agreed mask → masked_below (lists_of h) (judged_places h) ≡ mask
masked_so_far most h mask found =
    let all = sym (verdict_agreed most (lists_of h) 0 (judged_places h) (ap is_agreed found)) ∙ found in
    ap (masked_below (lists_of h)) (sym (zero-add (judged_places h))) ∙ cc all

-- the tokens at a place where one copy has this one now: their fault, or they are masked or the same
found_next : (most : MaskLimits) (xs ys : List (List Token)) (q : ℕ) (mask : List ℕ) → AreSame q xs ys → verdict_from most xs 0 q ≡ Agreed mask → masked_below xs q ≡ mask → verdict_from most ys 0 (suc q) ≡ fault_or (heads_fault most q (length mask) (heads_at ys q)) (Agreed (mask ++ cond (heads_masked (heads_at ys q)) (q ∷ []) []))
found_next most xs ys q mask same found masked =
    let agreed : is_agreed (verdict_from most ys 0 q) ≡ true = ap is_agreed (sym (verdict_same q most xs ys 0 q same (omega arith)) ∙ found) in
    let mask_is : masked_below ys q ≡ mask = sym (below_same q xs ys q same (omega arith)) ∙ masked in
    verdict_next most ys 0 q agreed
    ∙ ap (λ p. fault_or (fault most ys p) (Agreed (masked_below ys (suc p)))) (zero-add q)
    ∙ ap (λ f. fault_or f (Agreed (masked_below ys (suc q)))) (fault_by most ys q ∙ ap (λ ps. heads_fault most q (length ps) (heads_at ys q)) mask_is)
    ∙ ap (λ ps. fault_or (heads_fault most q (length mask) (heads_at ys q)) (Agreed (ps ++ cond (is_masked ys q) (q ∷ []) []))) mask_is
    ∙ ap (λ b. fault_or (heads_fault most q (length mask) (heads_at ys q)) (Agreed (mask ++ cond b (q ∷ []) []))) (masked_by ys q)

pub heard_next : (most : MaskLimits) (k : ℕ) (t : Token) (h : List Heard) (mask : List ℕ) → early_verdict most h ≡ Agreed mask → only_behind k (map (kept_of true (judged_places h)) h) ≡ true → IsOpen k h → early_verdict most (with_token k t h) ≡ fault_or (heads_fault most (judged_places h) (length mask) (heads_with k (Some t) (map (kept_of true (judged_places h)) h))) (Agreed (mask ++ cond (heads_masked (heads_with k (Some t) (map (kept_of true (judged_places h)) h))) (judged_places h ∷ []) []))
heard_next most k t h mask found only may =
    let q = judged_places h in
    let xs = lists_of h in
    let ys = lists_of (with_token k t h) in
    let reaches = judged_in (longest xs) h in
    let heads : heads_at ys q ≡ heads_with k (Some t) (map (kept_of true q) h) = sym (heads_token k q t h only reaches) in
    let further : judged_places (with_token k t h) ≡ suc q = omega (arith, judged_behind k t h only may) in
    ap (verdict_from most ys 0) further
    ∙ found_next most xs ys q mask (same_token k q t h may reaches) found (masked_so_far most h mask found)
    ∙ ap (λ os. fault_or (heads_fault most q (length mask) os) (Agreed (mask ++ cond (heads_masked os) (q ∷ []) []))) heads

pub heard_fault_by : (most : MaskLimits) (k : ℕ) (t : Token) (h : List Heard) (mask : List ℕ) → early_verdict most h ≡ Agreed mask → only_behind k (map (kept_of true (judged_places h)) h) ≡ true → IsOpen k h → fault most (lists_of (with_token k t h)) (judged_places h) ≡ heads_fault most (judged_places h) (length mask) (heads_with k (Some t) (map (kept_of true (judged_places h)) h))
heard_fault_by most k t h mask found only may =
    let q = judged_places h in
    let xs = lists_of h in
    let ys = lists_of (with_token k t h) in
    let reaches = judged_in (longest xs) h in
    let mask_is : masked_below ys q ≡ mask = sym (below_same q xs ys q (same_token k q t h may reaches) (omega arith)) ∙ masked_so_far most h mask found in
    fault_by most ys q
    ∙ ap (λ ps. heads_fault most q (length ps) (heads_at ys q)) mask_is
    ∙ ap (heads_fault most q (length mask)) (sym (heads_token k q t h only reaches))

-- nothing new is found while another copy is behind, or this one isn't
pub heard_same : (most : MaskLimits) (k : ℕ) (t : Token) (h : List Heard) → only_behind k (map (kept_of true (judged_places h)) h) ≡ false → IsOpen k h → early_verdict most (with_token k t h) ≡ early_verdict most h
heard_same most k t h only may =
    let q = judged_places h in
    let xs = lists_of h in
    let ys = lists_of (with_token k t h) in
    ap (verdict_from most ys 0) (judged_other k t h only may)
    ∙ sym (verdict_same q most xs ys 0 q (same_token k q t h may (judged_in (longest xs) h)) (omega arith))

-- a fault that was found stays
pub heard_fault : (most : MaskLimits) (k : ℕ) (t : Token) (h : List Heard) → is_agreed (early_verdict most h) ≡ false → IsOpen k h → early_verdict most (with_token k t h) ≡ early_verdict most h
heard_fault most k t h fault may =
    let q = judged_places h in
    let xs = lists_of h in
    let ys = lists_of (with_token k t h) in
    let same : verdict_from most ys 0 q ≡ verdict_from most xs 0 q = sym (verdict_same q most xs ys 0 q (same_token k q t h may (judged_in (longest xs) h)) (omega arith)) in
    verdict_stays most ys 0 q (judged_places (with_token k t h)) (token_more k t h) (ap is_agreed same ∙ fault) ∙ same
