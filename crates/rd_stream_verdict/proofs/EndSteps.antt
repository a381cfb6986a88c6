-- What is kept after an end.
use Rattle.std.proofs.Common.{◌≡◌, ℕ, ◌<◌, true, false, List, [], length, map, Option, Some, None, refl, ap, sym, subst, ◌∙◌, arith}
use Rattle.std.proofs.lemmas.List.{length-map}
use Rattle.rd_base.specs.Limits.{AreMaskLimits}
use Rattle.rd_base.specs.Heard.{Heard, lists_of, judged_places, early_verdict}
use Rattle.rd_base.specs.Verdicts.{is_agreed, mask_of, rows_at, least_disagrees}
use Rattle.rd_base.specs.declared.verdict.Verdict.{Verdict}
use Rattle.rd_base.specs.declared.verdict.Verdict.TheVariants.{Agreed, Disagree, Noise}
use Rattle.rd_stream_verdict.specs.Said.{at_place, ends, with_end}
use Rattle.rd_stream_verdict.specs.Kept.{Kept, kept_of, IsAt, IsReached, HasClosed}
use Rattle.rd_stream_verdict.specs.Heads.{only_behind, closed, cleared, heads_with, heads_alone_fault}
use Rattle.rd_stream_verdict.proofs.Reached.{judged_other_end, end_lists}
use Rattle.rd_stream_verdict.proofs.KeptCopies.{kept_close, kept_close_clear, length-place}
use Rattle.rd_stream_verdict.proofs.Ended.{end_none, end_alone, end_same, end_fault}
use Rattle.rd_stream_verdict.proofs.Steps.{IsOpenIn, IsNext, at_next, open_in, made_at, mask_none}

-- the copy is closed, and all else stays
pub record OnlyCloses (k : ℕ) (old new : Kept) : Type 0 where
  pub most : new.most ≡ old.most
  pub found : new.found ≡ old.found
  pub rows : new.rows ≡ old.rows
  pub copies : new.copies ≡ at_place closed k old.copies

same_lists_rows : (k : ℕ) (h : List Heard) (v : Verdict) → rows_at (lists_of h) (mask_of v) ≡ rows_at (lists_of (with_end k h)) (mask_of v)
same_lists_rows k h v = ap (λ ls. rows_at ls (mask_of v)) (sym (end_lists k h))

-- nothing more is found
stays : (old new : Kept) (k : ℕ) (h : List Heard) → OnlyCloses k old new → IsAt h old → judged_places (with_end k h) ≡ judged_places h → IsAt (with_end k h) new
stays old new k h closes at judged =
    let h2 = with_end k h in
    let q = judged_places h in
    let v = early_verdict old.most h in
    made_at h2 new v q (ap (λ m. early_verdict m h2) closes.most ∙ end_same old.most k h judged) (closes.found ∙ at.found) (closes.rows ∙ at.rows ∙ same_lists_rows k h v) judged
    (closes.copies ∙ ap (at_place closed k) at.copies ∙ kept_close (is_agreed v) k q h)

pub wait_closed : (old new : Kept) (k : ℕ) → IsOpenIn k old.copies → is_agreed old.found ≡ true → only_behind k old.copies ≡ false → OnlyCloses k old new → HasClosed k old new
wait_closed old new k may agreed only closes = record { most = closes.most; at = go }
  where
    go : (h : List Heard) → IsAt h old → IsAt (with_end k h) new
    go h at =
        let q = judged_places h in
        let v_agreed : is_agreed (early_verdict old.most h) ≡ true = ap is_agreed (sym at.found) ∙ agreed in
        let same : old.copies ≡ map (kept_of true q) h = at.copies ∙ ap (λ b. map (kept_of b q) h) v_agreed in
        let still : only_behind k (map (kept_of true q) h) ≡ false = sym (ap (only_behind k) same) ∙ only in
        stays old new k h closes at (judged_other_end k h still (open_in k old.copies true q h may same))

pub last_closed : (old new : Kept) (k place : ℕ) (mask : List ℕ) → IsNext old k place mask → heads_alone_fault place (heads_with k None old.copies) ≡ None → OnlyCloses k old new → HasClosed k old new
last_closed old new k place mask next none closes = record { most = closes.most; at = go }
  where
    go : (h : List Heard) → IsAt h old → IsAt (with_end k h) new
    go h at =
        let n = at_next old k place mask h next at in
        let q = judged_places h in
        let there : k < length (map (kept_of true q) h) = omega (arith, next.may.there, ap length n.copies) in
        let alone : heads_alone_fault q (heads_with k None (map (kept_of true q) h)) ≡ None =
        ap (λ xs. heads_alone_fault q (heads_with k None xs)) (sym n.copies) ∙ ap (λ p. heads_alone_fault p (heads_with k None old.copies)) n.judged ∙ none in
        stays old new k h closes at (end_none k h n.only there alone)

alone_fault : (p : ℕ) (o : Option ℕ) (v : Verdict) → least_disagrees p o ≡ Some v → is_agreed v ≡ false
alone_fault p None v e = absurd (cc e)
alone_fault p (Some copy) (Agreed mask) e = absurd (cc e)
alone_fault p (Some copy) (Disagree other place) e = refl
alone_fault p (Some copy) (Noise place) e = refl

pub stop_closed : (old new : Kept) (k place : ℕ) (mask : List ℕ) (v : Verdict) → IsNext old k place mask → heads_alone_fault place (heads_with k None old.copies) ≡ Some v → new.most ≡ old.most → new.found ≡ v → new.rows ≡ [] → new.copies ≡ at_place closed k (map cleared old.copies) → HasClosed k old new
stop_closed old new k place mask v next is most found rows copies = record { most = most; at = go }
  where
    go : (h : List Heard) → IsAt h old → IsAt (with_end k h) new
    go h at =
        let n = at_next old k place mask h next at in
        let h2 = with_end k h in
        let q = judged_places h in
        let fault_is : is_agreed v ≡ false = alone_fault place _ v is in
        let alone : heads_alone_fault q (heads_with k None (map (kept_of true q) h)) ≡ Some v =
        ap (λ xs. heads_alone_fault q (heads_with k None xs)) (sym n.copies) ∙ ap (λ p. heads_alone_fault p (heads_with k None old.copies)) n.judged ∙ is in
        let early : early_verdict new.most h2 ≡ v = ap (λ m. early_verdict m h2) most ∙ end_alone old.most k h v (ap is_agreed n.early) n.only alone fault_is in
        made_at h2 new v (judged_places h2) early found (rows ∙ ap (rows_at (lists_of h2)) (sym (mask_none v fault_is))) refl
        (copies ∙ ap (λ xs. at_place closed k (map cleared xs)) n.copies ∙ kept_close_clear k q (judged_places h2) h ∙ ap (λ b. map (kept_of b (judged_places h2)) h2) (sym fault_is))

pub skip_closed : (old new : Kept) (k : ℕ) → is_agreed old.found ≡ false → OnlyCloses k old new → HasClosed k old new
skip_closed old new k fault_is closes = record { most = closes.most; at = go }
  where
    go : (h : List Heard) → IsAt h old → IsAt (with_end k h) new
    go h at =
        let h2 = with_end k h in
        let q = judged_places h in
        let v = early_verdict old.most h in
        let v_fault : is_agreed v ≡ false = ap is_agreed (sym at.found) ∙ fault_is in
        made_at h2 new v (judged_places h2) (ap (λ m. early_verdict m h2) closes.most ∙ end_fault old.most k h v_fault) (closes.found ∙ at.found) (closes.rows ∙ at.rows ∙ same_lists_rows k h v) refl
        (closes.copies ∙ ap (at_place closed k) at.copies ∙ ap (λ b. at_place closed k (map (kept_of b q) h)) v_fault ∙ kept_close false k q h ∙ ap (λ b. map (kept_of b (judged_places h2)) h2) (sym v_fault))

pub reached_closed : (old new : Kept) (k : ℕ) → HasClosed k old new → IsReached old → IsReached new
reached_closed old new k is reached =
    let after = is.at reached.said reached.at in
    let h = reached.said in
    let before : length old.copies ≡ length h = ap length reached.at.copies ∙ length-map h (kept_of (is_agreed (early_verdict old.most h)) (judged_places h)) in
    let now : length new.copies ≡ length (with_end k h) = ap length after.copies ∙ length-map (with_end k h) (kept_of (is_agreed (early_verdict new.most (with_end k h))) (judged_places (with_end k h))) in
    let size : length new.copies ≡ length old.copies = now ∙ length-place ends k h ∙ sym before in
    record {
      three = omega (arith, reached.three);
      eight = omega (arith, reached.eight);
      limits = subst AreMaskLimits (sym is.most) reached.limits;
      said = with_end k h;
      at = after;
    }
