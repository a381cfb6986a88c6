-- What is kept tells the answer.
use Rattle.std.proofs.Common.{◌≡◌, ℕ, zero, suc, ◌<◌, min, Bool, true, false, cond, ◌&&◌, List, [], ◌∷◌, ◌++◌, length, map, Some, refl, ap, sym, subst, ◌∙◌, arith}
use Rattle.std.specs.Prelude.{IfOk, Result, Ok, Err}
use Rattle.std.specs.List.{AllPairs, list_all}
use Rattle.std.proofs.lemmas.List.Quantifiers.{all_pairs_push}
use Rattle.std.proofs.lemmas.List.{append-nil}
use Rattle.rd_base.specs.Token.{Token}
use Rattle.rd_base.specs.Heard.{Heard, lists_of, judged_of, judged_places, early_verdict}
use Rattle.rd_base.specs.Verdicts.{verdict, verdict_from, masked_below, is_masked, mask_of, rows_at, is_agreed, longest}
use Rattle.rd_base.specs.declared.values.MaskLimits.{MaskLimits}
use Rattle.rd_base.specs.declared.verdict.Verdict.{Verdict}
use Rattle.rd_base.specs.declared.verdict.Verdict.TheVariants.{Agreed, Disagree, Noise}
use Rattle.rd_verdict.proofs.Places.{masked_all}
use Rattle.rd_stream_verdict.specs.Said.{answer, answer_of}
use Rattle.rd_stream_verdict.specs.Kept.{Kept, CopyKept, kept_of, IsAt, IsReached, kept_answer}
use Rattle.rd_stream_verdict.proofs.Reached.{and_parts}
use Rattle.rd_stream_verdict.proofs.Heard.{masked_so_far}

whole_kept : (b : Bool) (q : ℕ) (h : List Heard) → list_all (λ (c : CopyKept). c.is_whole) (map (kept_of b q) h) ≡ list_all (λ (c : Heard). c.is_whole) h
whole_kept b q [] = refl
whole_kept b q (c ∷ h) = ap (λ t. c.is_whole && t) (whole_kept b q h)

pub answered : (h : List Heard) (kept : Kept) → IsAt h kept → kept_answer kept ≡ answer kept.most h
answered h kept at =
    ap (λ xs. answer_of (list_all (λ (c : CopyKept). c.is_whole) xs) kept.found) at.copies
    ∙ ap (λ b. answer_of b kept.found) (whole_kept (is_agreed (early_verdict kept.most h)) (judged_places h) h)
    ∙ ap (answer_of (list_all (λ (c : Heard). c.is_whole) h)) at.found

whole_judged : (m : ℕ) (h : List Heard) → list_all (λ (c : Heard). c.is_whole) h ≡ true → judged_of m h ≡ m
whole_judged m [] e = refl
whole_judged m (c ∷ h) e =
    let parts = and_parts c.is_whole (list_all (λ (c : Heard). c.is_whole) h) e in
    ap (λ b. judged_of (cond b m (min m (length c.tokens))) h) parts.0 ∙ whole_judged m h parts.1

-- where all copies are whole the answer is the verdict
pub whole_answer : (most : MaskLimits) (h : List Heard) → list_all (λ (c : Heard). c.is_whole) h ≡ true → answer most h ≡ Some (verdict most (lists_of h))
whole_answer most h e =
    ap (λ b. answer_of b (early_verdict most h)) e
    ∙ ap (λ n. Some (verdict_from most (lists_of h) 0 n)) (whole_judged (longest (lists_of h)) h e)

pub agreed_answer : (b : Bool) (v : Verdict) (mask : List ℕ) → answer_of b v ≡ Some (Agreed mask) → mask_of v ≡ mask
agreed_answer true (Agreed found) mask e = cc e
agreed_answer true (Disagree copy place) mask e = absurd (cc e)
agreed_answer true (Noise place) mask e = absurd (cc e)
agreed_answer false (Agreed found) mask e = absurd (cc e)
agreed_answer false (Disagree copy place) mask e = absurd (cc e)
agreed_answer false (Noise place) mask e = absurd (cc e)

masked_pairs : (lists : List (List Token)) (n : ℕ) → AllPairs (λ p q. p < q) (masked_below lists n)
masked_pairs lists zero = λ i j d lt within. absurd (omega arith)
masked_pairs lists (suc n) = go (is_masked lists n) (masked_pairs lists n)
  where
    go : (b : Bool) → AllPairs (λ p q. p < q) (masked_below lists n) → AllPairs (λ p q. p < q) (masked_below lists n ++ cond b (n ∷ []) [])
    go true pairs = all_pairs_push (λ p q. p < q) (masked_below lists n) n pairs (λ k d lt. (masked_all lists n k d lt).0)
    go false pairs = rw append-nil pairs

pub mask_pairs : (kept : Kept) (mask : List ℕ) → IsReached kept → kept.found ≡ Agreed mask → AllPairs (λ p q. p < q) mask
mask_pairs kept mask reached found =
    let h = reached.said in
    let masked : masked_below (lists_of h) (judged_places h) ≡ mask = masked_so_far kept.most h mask (sym reached.at.found ∙ found) in
    let P : List ℕ → Type 0 = λ ps. AllPairs (λ p q. p < q) ps in
    subst P masked (masked_pairs (lists_of h) (judged_places h))

pub learnt_rows : {E : Type 0} (r : Result (List (List (List ℕ))) E) (kept : Kept) (h : List Heard) (mask : List ℕ) → IsAt h kept → answer kept.most h ≡ Some (Agreed mask) → IfOk r (λ rows. rows ≡ kept.rows) → IfOk r (λ rows. rows ≡ rows_at (lists_of h) mask)
learnt_rows (Ok rows) kept h mask at agreed is =
    is ∙ at.rows ∙ ap (rows_at (lists_of h)) (agreed_answer (list_all (λ (c : Heard). c.is_whole) h) (early_verdict kept.most h) mask agreed)
learnt_rows (Err e) kept h mask at agreed is = is
