-- What is kept after a token more.
use Rattle.std.proofs.Common.{◌≡◌, ℕ, ◌+◌, ◌<◌, Bool, true, false, cond, List, [], ◌∷◌, ◌++◌, length, map, get_or, Some, None, refl, ap, sym, subst, ◌∙◌, arith}
use Rattle.std.specs.Prelude.{slice_get, IfSome, option_to_list}
use Rattle.std.proofs.lemmas.List.{length-map, append-nil}
use Rattle.rd_base.specs.Token.{Token}
use Rattle.rd_base.specs.Limits.{AreMaskLimits}
use Rattle.rd_base.specs.Heard.{Heard, lists_of, judged_places, early_verdict}
use Rattle.rd_base.specs.Verdicts.{fault, fault_or, masked_below, is_agreed, mask_of, rows_at, longest}
use Rattle.rd_base.specs.declared.values.MaskLimits.{MaskLimits}
use Rattle.rd_base.specs.declared.verdict.Verdict.{Verdict}
use Rattle.rd_base.specs.declared.verdict.Verdict.TheVariants.{Agreed, Disagree, Noise}
use Rattle.rd_verdict.proofs.AgreedPlaces.{fault_not}
use Rattle.rd_stream_verdict.specs.Said.{at_place, with_token}
use Rattle.rd_stream_verdict.specs.Kept.{Kept, CopyKept, kept_of, IsAt, IsReached, HasHeard}
use Rattle.rd_stream_verdict.specs.Heads.{only_behind, counted, waits, passed, cleared, heads_with, heads_masked, heads_fault, heads_row}
use Rattle.rd_stream_verdict.proofs.Reached.{IsOpen, judged_in, judged_behind, judged_other}
use Rattle.rd_stream_verdict.proofs.ByHeads.{heads_at, rows_push}
use Rattle.rd_stream_verdict.proofs.Same.{rows_same}
use Rattle.rd_stream_verdict.proofs.KeptCopies.{same_token, heads_token, kept_wait, kept_pass, kept_clear, kept_skip, open_of, place_of, length-place}
use Rattle.rd_stream_verdict.proofs.Heard.{masked_so_far, heard_next, heard_fault_by, heard_same, heard_fault}

pub mask_none : (v : Verdict) → is_agreed v ≡ false → mask_of v ≡ []
mask_none (Agreed mask) e = absurd (cc e)
mask_none (Disagree copy place) e = refl
mask_none (Noise place) e = refl

pub made_at : (h : List Heard) (new : Kept) (v : Verdict) (q : ℕ) → early_verdict new.most h ≡ v → new.found ≡ v → new.rows ≡ rows_at (lists_of h) (mask_of v) → judged_places h ≡ q → new.copies ≡ map (kept_of (is_agreed v) q) h → IsAt h new
made_at h new v q early found rows judged copies = record {
  found = found ∙ sym early;
  rows = rows ∙ ap (λ w. rows_at (lists_of h) (mask_of w)) (sym early);
  copies = copies ∙ ap (λ w. map (kept_of (is_agreed w) q) h) (sym early) ∙ ap (λ p. map (kept_of (is_agreed (early_verdict new.most h)) p) h) (sym judged);
}

-- a copy that is there and may have more tokens
pub record IsOpenIn (k : ℕ) (copies : List CopyKept) : Type 0 where
  pub there : k < length copies
  pub may : IfSome (slice_get copies k) (λ c. c.is_whole ≡ false)

pub open_in : (k : ℕ) (copies : List CopyKept) (b : Bool) (q : ℕ) (h : List Heard) → IsOpenIn k copies → copies ≡ map (kept_of b q) h → IsOpen k h
open_in k copies b q h is e =
    let there : k < length (map (kept_of b q) h) = omega (arith, ap length e, is.there) in
    let P : List CopyKept → Type 0 = λ xs. IfSome (slice_get xs k) (λ c. c.is_whole ≡ false) in
    open_of b k q h there (subst P e is.may)

-- no fault was found so far, and this copy alone is behind at a place
pub record IsNext (old : Kept) (k place : ℕ) (mask : List ℕ) : Type 0 where
  pub may : IsOpenIn k old.copies
  pub found : old.found ≡ Agreed mask
  pub only : only_behind k old.copies ≡ true
  pub fed : (d : CopyKept) → (get_or old.copies k d).fed ≡ place

pub record AtNext (old : Kept) (k place : ℕ) (mask : List ℕ) (h : List Heard) : Type 0 where
  pub early : early_verdict old.most h ≡ Agreed mask
  pub copies : old.copies ≡ map (kept_of true (judged_places h)) h
  pub rows : old.rows ≡ rows_at (lists_of h) mask
  pub only : only_behind k (map (kept_of true (judged_places h)) h) ≡ true
  pub may : IsOpen k h
  pub judged : judged_places h ≡ place

pub at_next : (old : Kept) (k place : ℕ) (mask : List ℕ) (h : List Heard) → IsNext old k place mask → IsAt h old → AtNext old k place mask h
at_next old k place mask h next at =
    let early : early_verdict old.most h ≡ Agreed mask = sym at.found ∙ next.found in
    let q = judged_places h in
    let copies : old.copies ≡ map (kept_of true q) h = at.copies ∙ ap (λ v. map (kept_of (is_agreed v) q) h) early in
    let only : only_behind k (map (kept_of true q) h) ≡ true = sym (ap (only_behind k) copies) ∙ next.only in
    let none : CopyKept = record { fed = 0; waiting = []; is_whole = true } in
    record {
      early = early;
      copies = copies;
      rows = at.rows ∙ ap (λ v. rows_at (lists_of h) (mask_of v)) early;
      only = only;
      may = open_in k old.copies true q h next.may copies;
      judged = sym (place_of k q h none only (judged_in (longest (lists_of h)) h)) ∙ sym (ap (λ xs. (get_or xs k none).fed) copies) ∙ next.fed none;
    }

-- what is found next, by what is kept
next_found : (old : Kept) (k place : ℕ) (mask : List ℕ) (t : Token) (h : List Heard) → AtNext old k place mask h → early_verdict old.most (with_token k t h) ≡ fault_or (heads_fault old.most place (length mask) (heads_with k (Some t) old.copies)) (Agreed (mask ++ cond (heads_masked (heads_with k (Some t) old.copies)) (place ∷ []) []))
next_found old k place mask t h n =
    heard_next old.most k t h mask n.early n.only n.may
    ∙ ap (λ xs. fault_or (heads_fault old.most (judged_places h) (length mask) (heads_with k (Some t) xs)) (Agreed (mask ++ cond (heads_masked (heads_with k (Some t) xs)) (judged_places h ∷ []) []))) (sym n.copies)
    ∙ ap (λ p. fault_or (heads_fault old.most p (length mask) (heads_with k (Some t) old.copies)) (Agreed (mask ++ cond (heads_masked (heads_with k (Some t) old.copies)) (p ∷ []) []))) n.judged

next_fault : (old : Kept) (k place : ℕ) (mask : List ℕ) (t : Token) (h : List Heard) → AtNext old k place mask h → fault old.most (lists_of (with_token k t h)) (judged_places h) ≡ heads_fault old.most place (length mask) (heads_with k (Some t) old.copies)
next_fault old k place mask t h n =
    heard_fault_by old.most k t h mask n.early n.only n.may
    ∙ ap (λ xs. heads_fault old.most (judged_places h) (length mask) (heads_with k (Some t) xs)) (sym n.copies)
    ∙ ap (λ p. heads_fault old.most p (length mask) (heads_with k (Some t) old.copies)) n.judged

next_rows : (old : Kept) (k place : ℕ) (mask : List ℕ) (t : Token) (h : List Heard) → AtNext old k place mask h → rows_at (lists_of (with_token k t h)) mask ≡ old.rows
next_rows old k place mask t h n =
    let q = judged_places h in
    let xs = lists_of h in
    let ys = lists_of (with_token k t h) in
    let masked : masked_below xs q ≡ mask = masked_so_far old.most h mask n.early in
    ap (rows_at ys) (sym masked)
    ∙ sym (rows_same q xs ys (same_token k q t h n.may (judged_in (longest xs) h)))
    ∙ ap (rows_at xs) masked
    ∙ sym n.rows

next_copies : (old : Kept) (k place : ℕ) (mask : List ℕ) (t : Token) (h : List Heard) → AtNext old k place mask h → at_place counted k (map passed old.copies) ≡ map (kept_of true (judged_places h + 1)) (with_token k t h)
next_copies old k place mask t h n =
    ap (λ xs. at_place counted k (map passed xs)) n.copies ∙ kept_pass k (judged_places h) t h n.only

never_agreed : (most : MaskLimits) (lists : List (List Token)) (p : ℕ) (v : Verdict) → fault most lists p ≡ Some v → is_agreed v ≡ false
never_agreed most lists p (Agreed mask) e = absurd (fault_not most lists p mask e)
never_agreed most lists p (Disagree copy place) e = refl
never_agreed most lists p (Noise place) e = refl

pub stop_heard : (old new : Kept) (k place : ℕ) (mask : List ℕ) (t : Token) (v : Verdict) → IsNext old k place mask → heads_fault old.most place (length mask) (heads_with k (Some t) old.copies) ≡ Some v → new.most ≡ old.most → new.found ≡ v → new.rows ≡ [] → new.copies ≡ at_place counted k (map cleared old.copies) → HasHeard k t old new
stop_heard old new k place mask t v next is most found rows copies = record { most = most; at = λ h at. go h (at_next old k place mask h next at) }
  where
    go : (h : List Heard) → AtNext old k place mask h → IsAt (with_token k t h) new
    go h n =
        let h2 = with_token k t h in
        let fault_is : is_agreed v ≡ false = never_agreed old.most (lists_of h2) (judged_places h) v (next_fault old k place mask t h n ∙ is) in
        let early : early_verdict new.most h2 ≡ v = ap (λ m. early_verdict m h2) most ∙ next_found old k place mask t h n ∙ ap (λ f. fault_or f (Agreed (mask ++ cond (heads_masked (heads_with k (Some t) old.copies)) (place ∷ []) []))) is in
        made_at h2 new v (judged_places h2) early found (rows ∙ ap (rows_at (lists_of h2)) (sym (mask_none v fault_is))) refl
        (copies ∙ ap (λ xs. at_place counted k (map cleared xs)) n.copies ∙ kept_clear k (judged_places h) (judged_places h2) t h ∙ ap (λ b. map (kept_of b (judged_places h2)) h2) (sym fault_is))

pub pass_heard : (old new : Kept) (k place : ℕ) (mask : List ℕ) (t : Token) → IsNext old k place mask → heads_fault old.most place (length mask) (heads_with k (Some t) old.copies) ≡ None → heads_masked (heads_with k (Some t) old.copies) ≡ false → new.most ≡ old.most → new.found ≡ old.found → new.rows ≡ old.rows → new.copies ≡ at_place counted k (map passed old.copies) → HasHeard k t old new
pass_heard old new k place mask t next is unmasked most found rows copies = record { most = most; at = λ h at. go h (at_next old k place mask h next at) }
  where
    go : (h : List Heard) → AtNext old k place mask h → IsAt (with_token k t h) new
    go h n =
        let h2 = with_token k t h in
        let early : early_verdict new.most h2 ≡ Agreed mask =
        ap (λ m. early_verdict m h2) most ∙ next_found old k place mask t h n
        ∙ ap (λ f. fault_or f (Agreed (mask ++ cond (heads_masked (heads_with k (Some t) old.copies)) (place ∷ []) []))) is
        ∙ ap (λ b. Agreed (mask ++ cond b (place ∷ []) [])) unmasked ∙ ap Agreed (append-nil mask) in
        made_at h2 new (Agreed mask) (judged_places h + 1) early (found ∙ next.found) (rows ∙ sym (next_rows old k place mask t h n)) (judged_behind k t h n.only n.may) (copies ∙ next_copies old k place mask t h n)

pub mask_heard : (old new : Kept) (k place : ℕ) (mask : List ℕ) (t : Token) → IsNext old k place mask → heads_fault old.most place (length mask) (heads_with k (Some t) old.copies) ≡ None → heads_masked (heads_with k (Some t) old.copies) ≡ true → new.most ≡ old.most → new.found ≡ Agreed (mask ++ place ∷ []) → new.rows ≡ old.rows ++ option_to_list (heads_row (heads_with k (Some t) old.copies)) → new.copies ≡ at_place counted k (map passed old.copies) → HasHeard k t old new
mask_heard old new k place mask t next is masked most found rows copies = record { most = most; at = λ h at. go h (at_next old k place mask h next at) }
  where
    go : (h : List Heard) → AtNext old k place mask h → IsAt (with_token k t h) new
    go h n =
        let h2 = with_token k t h in
        let q = judged_places h in
        let early : early_verdict new.most h2 ≡ Agreed (mask ++ place ∷ []) =
        ap (λ m. early_verdict m h2) most ∙ next_found old k place mask t h n
        ∙ ap (λ f. fault_or f (Agreed (mask ++ cond (heads_masked (heads_with k (Some t) old.copies)) (place ∷ []) []))) is
        ∙ ap (λ b. Agreed (mask ++ cond b (place ∷ []) [])) masked in
        let heads : heads_with k (Some t) old.copies ≡ heads_at (lists_of h2) q = ap (heads_with k (Some t)) n.copies ∙ heads_token k q t h n.only (judged_in (longest (lists_of h)) h) in
        let row : rows_at (lists_of h2) (mask ++ place ∷ []) ≡ old.rows ++ option_to_list (heads_row (heads_with k (Some t) old.copies)) =
        ap (λ p. rows_at (lists_of h2) (mask ++ p ∷ [])) (sym n.judged)
        ∙ rows_push (lists_of h2) mask q
        ∙ ap (λ rs. rs ++ option_to_list (heads_row (heads_at (lists_of h2) q))) (next_rows old k place mask t h n)
        ∙ ap (λ os. old.rows ++ option_to_list (heads_row os)) (sym heads) in
        made_at h2 new (Agreed (mask ++ place ∷ [])) (q + 1) early found (rows ∙ sym row) (judged_behind k t h n.only n.may) (copies ∙ next_copies old k place mask t h n)

same_rows : (most : MaskLimits) (k : ℕ) (t : Token) (h : List Heard) → is_agreed (early_verdict most h) ≡ true → IsOpen k h → rows_at (lists_of h) (mask_of (early_verdict most h)) ≡ rows_at (lists_of (with_token k t h)) (mask_of (early_verdict most h))
same_rows most k t h agreed here =
    let q = judged_places h in
    let xs = lists_of h in
    let ys = lists_of (with_token k t h) in
    let masked : masked_below xs q ≡ mask_of (early_verdict most h) = mask_by (early_verdict most h) refl agreed in
    ap (rows_at xs) (sym masked) ∙ rows_same q xs ys (same_token k q t h here (judged_in (longest xs) h)) ∙ ap (rows_at ys) masked
  where
    mask_by : (v : Verdict) → early_verdict most h ≡ v → is_agreed v ≡ true → masked_below (lists_of h) (judged_places h) ≡ mask_of v
    mask_by (Agreed mask) is e = masked_so_far most h mask is
    mask_by (Disagree copy place) is e = absurd (cc e)
    mask_by (Noise place) is e = absurd (cc e)

pub wait_heard : (old new : Kept) (k : ℕ) (t : Token) → IsOpenIn k old.copies → is_agreed old.found ≡ true → only_behind k old.copies ≡ false → new.most ≡ old.most → new.found ≡ old.found → new.rows ≡ old.rows → new.copies ≡ at_place (waits t) k old.copies → HasHeard k t old new
wait_heard old new k t may agreed only most found rows copies = record { most = most; at = go }
  where
    go : (h : List Heard) → IsAt h old → IsAt (with_token k t h) new
    go h at =
        let h2 = with_token k t h in
        let q = judged_places h in
        let v = early_verdict old.most h in
        let v_agreed : is_agreed v ≡ true = ap is_agreed (sym at.found) ∙ agreed in
        let same : old.copies ≡ map (kept_of true q) h = at.copies ∙ ap (λ b. map (kept_of b q) h) v_agreed in
        let here = open_in k old.copies true q h may same in
        let still : only_behind k (map (kept_of true q) h) ≡ false = sym (ap (only_behind k) same) ∙ only in
        let reaches = judged_in (longest (lists_of h)) h in
        let early : early_verdict new.most h2 ≡ v = ap (λ m. early_verdict m h2) most ∙ heard_same old.most k t h still here in
        made_at h2 new v q early (found ∙ at.found) (rows ∙ at.rows ∙ same_rows old.most k t h v_agreed here) (judged_other k t h still here)
        (copies ∙ ap (at_place (waits t) k) same ∙ kept_wait k q t h here reaches ∙ ap (λ b. map (kept_of b q) h2) (sym v_agreed))

pub skip_heard : (old new : Kept) (k : ℕ) (t : Token) → IsOpenIn k old.copies → is_agreed old.found ≡ false → new.most ≡ old.most → new.found ≡ old.found → new.rows ≡ old.rows → new.copies ≡ at_place counted k old.copies → HasHeard k t old new
skip_heard old new k t may fault_is most found rows copies = record { most = most; at = go }
  where
    go : (h : List Heard) → IsAt h old → IsAt (with_token k t h) new
    go h at =
        let h2 = with_token k t h in
        let q = judged_places h in
        let v = early_verdict old.most h in
        let v_fault : is_agreed v ≡ false = ap is_agreed (sym at.found) ∙ fault_is in
        let none : mask_of v ≡ [] = mask_none v v_fault in
        let same : old.copies ≡ map (kept_of false q) h = at.copies ∙ ap (λ b. map (kept_of b q) h) v_fault in
        let here = open_in k old.copies false q h may same in
        let early : early_verdict new.most h2 ≡ v = ap (λ m. early_verdict m h2) most ∙ heard_fault old.most k t h v_fault here in
        made_at h2 new v (judged_places h2) early (found ∙ at.found) (rows ∙ at.rows ∙ ap (rows_at (lists_of h)) none ∙ ap (rows_at (lists_of h2)) (sym none)) refl
        (copies ∙ ap (at_place counted k) same ∙ kept_skip k q (judged_places h2) t h ∙ ap (λ b. map (kept_of b (judged_places h2)) h2) (sym v_fault))

pub reached_heard : (old new : Kept) (k : ℕ) (t : Token) → HasHeard k t old new → IsReached old → IsReached new
reached_heard old new k t heard reached =
    let after = heard.at reached.said reached.at in
    let h = reached.said in
    let before : length old.copies ≡ length h = ap length reached.at.copies ∙ length-map h (kept_of (is_agreed (early_verdict old.most h)) (judged_places h)) in
    let now : length new.copies ≡ length (with_token k t h) = ap length after.copies ∙ length-map (with_token k t h) (kept_of (is_agreed (early_verdict new.most (with_token k t h))) (judged_places (with_token k t h))) in
    let count : length (with_token k t h) ≡ length h = length-place (λ c. record { tokens = c.tokens ++ t ∷ []; is_whole = c.is_whole }) k h in
    let size : length new.copies ≡ length old.copies = now ∙ count ∙ sym before in
    record {
      three = omega (arith, reached.three);
      eight = omega (arith, reached.eight);
      limits = subst AreMaskLimits (sym heard.most) reached.limits;
      said = with_token k t h;
      at = after;
    }
