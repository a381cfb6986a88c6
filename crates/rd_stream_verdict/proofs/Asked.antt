-- What a step is asked for, and what its parts answer.
use Rattle.std.proofs.Common.{◌≡◌, ℕ, zero, suc, ◌<◌, Bool, true, false, List, [], ◌∷◌, ◌++◌, length, map, get_or, Option, Some, None, refl, ap, sym, subst, ◌∙◌, arith}
use Rattle.std.specs.Prelude.{slice_get, IfSome, OnOk, OnErr, Result, Ok, Err, option_to_list}
use Rattle.std.specs.List.{All}
use Rattle.rd_base.specs.Heard.{lists_of, judged_places}
use Rattle.rd_base.specs.Verdicts.{is_agreed, mask_of, masked_below}
use Rattle.rd_base.specs.declared.verdict.Verdict.{Verdict}
use Rattle.rd_base.specs.declared.verdict.Verdict.TheVariants.{Agreed, Disagree, Noise}
use Rattle.rd_verdict.proofs.Places.{masked_all}
use Rattle.rd_stream_verdict.specs.declared.judging.Judged.TheVariants.{Fault, Masked, Same}
use Rattle.rd_base.specs.Token.{Token}
use Rattle.rd_stream_verdict.specs.Said.{at_place}
use Rattle.rd_stream_verdict.specs.Kept.{Kept, CopyKept, IsReached, HasHeard}
use Rattle.rd_stream_verdict.specs.Heads.{only_behind, judged_by, counted, waits, passed, cleared, heads_with, heads_fault, heads_masked, heads_row, heads_judged}
use Rattle.rd_stream_verdict.proofs.Heard.{masked_so_far}
use Rattle.rd_stream_verdict.proofs.Steps.{IsOpenIn, IsNext, at_next, stop_heard, pass_heard, mask_heard, wait_heard, reached_heard}
use Rattle.rd_stream_verdict.proofs.KeptCopies.{few_mapped}

pub judged_fault : (v : Verdict) (f : Option Verdict) (m : Bool) (row : Option (List (List ℕ))) → Fault v ≡ judged_by f m row → f ≡ Some v
judged_fault v (Some w) m row e = let same = e in cc same
judged_fault v None true row e = absurd (cc e)
judged_fault v None false row e = absurd (cc e)

pub judged_masked : (r : Option (List (List ℕ))) (f : Option Verdict) (m : Bool) (row : Option (List (List ℕ))) → Masked r ≡ judged_by f m row → (f ≡ None) × (m ≡ true) × (r ≡ row)
judged_masked r (Some w) m row e = absurd (cc e)
judged_masked r None true row e = (refl, refl, cc e)
judged_masked r None false row e = absurd (cc e)

pub judged_same : (f : Option Verdict) (m : Bool) (row : Option (List (List ℕ))) → Same ≡ judged_by f m row → (f ≡ None) × (m ≡ false)
judged_same (Some w) m row e = absurd (cc e)
judged_same None true row e = absurd (cc e)
judged_same None false row e = (refl, refl)

agreed_is : (v : Verdict) → is_agreed v ≡ true → v ≡ Agreed (mask_of v)
agreed_is (Agreed mask) e = refl
agreed_is (Disagree copy place) e = absurd (cc e)
agreed_is (Noise place) e = absurd (cc e)

fed_at : (k p : ℕ) (xs : List CopyKept) → k < length xs → IfSome (slice_get xs k) (λ c. p ≡ c.fed) → (d : CopyKept) → (get_or xs k d).fed ≡ p
fed_at k p [] lt is d = absurd (omega arith)
fed_at zero p (x ∷ xs) lt is d = sym is
fed_at (suc k) p (x ∷ xs) lt is d = fed_at k p xs (omega arith) is d

-- the copy is there and may have more tokens, and it alone is behind
pub record IsAsked (k : ℕ) (kept : Kept) : Type 0 where
  pub there : k < length kept.copies
  pub may : IfSome (slice_get kept.copies k) (λ c. c.is_whole ≡ false)
  pub agreed : is_agreed kept.found ≡ true
  pub only : only_behind k kept.copies ≡ true

pub next_of : (k place : ℕ) (kept : Kept) → IsAsked k kept → IfSome (slice_get kept.copies k) (λ c. place ≡ c.fed) → IsNext kept k place (mask_of kept.found)
next_of k place kept asked fed = record {
  may = record { there = asked.there; may = asked.may };
  found = agreed_is kept.found asked.agreed;
  only = asked.only;
  fed = fed_at k place kept.copies asked.there fed;
}

-- the masked places come before the next
pub mask_rises : (k place : ℕ) (kept : Kept) → IsReached kept → IsNext kept k place (mask_of kept.found) → All (λ p. p < place) (mask_of kept.found)
mask_rises k place kept reached next =
    let n = at_next kept k place (mask_of kept.found) reached.said next reached.at in
    let masked : masked_below (lists_of reached.said) (judged_places reached.said) ≡ mask_of kept.found = masked_so_far kept.most reached.said (mask_of kept.found) n.early in
    let P : List ℕ → Type 0 = λ ps. All (λ p. p < place) ps in
    subst P masked (λ i d lt. omega (arith, n.judged, (masked_all (lists_of reached.said) (judged_places reached.said) i d lt).0))

-- ---- a step, by what its parts answer

pub stop_by : (seen : Kept) (k place masked : ℕ) (t : Token) (v : Verdict) (rows : List (List (List ℕ))) (before copies : List CopyKept) → IsAsked k seen → IfSome (slice_get seen.copies k) (λ c. place ≡ c.fed) → masked ≡ length (mask_of seen.found) → Fault v ≡ heads_judged seen.most place masked (heads_with k (Some t) seen.copies) → rows ≡ [] → before ≡ map cleared seen.copies → copies ≡ at_place counted k before → HasHeard k t seen (record { most = seen.most; found = v; rows = rows; copies = copies })
stop_by seen k place masked t v rows before copies asked fed count judged none clear counts =
    let heads = heads_with k (Some t) seen.copies in
    let is = judged_fault v (heads_fault seen.most place masked heads) (heads_masked heads) (heads_row heads) judged in
    stop_heard seen (record { most = seen.most; found = v; rows = rows; copies = copies }) k place (mask_of seen.found) t v (next_of k place seen asked fed)
    (ap (λ n. heads_fault seen.most place n heads) (sym count) ∙ is) refl refl none (counts ∙ ap (at_place counted k) clear)

pub same_by : (seen : Kept) (k place masked : ℕ) (t : Token) (before copies : List CopyKept) → IsAsked k seen → IfSome (slice_get seen.copies k) (λ c. place ≡ c.fed) → masked ≡ length (mask_of seen.found) → Same ≡ heads_judged seen.most place masked (heads_with k (Some t) seen.copies) → before ≡ map passed seen.copies → copies ≡ at_place counted k before → HasHeard k t seen (record { most = seen.most; found = seen.found; rows = seen.rows; copies = copies })
same_by seen k place masked t before copies asked fed count judged pass counts =
    let heads = heads_with k (Some t) seen.copies in
    let is = judged_same (heads_fault seen.most place masked heads) (heads_masked heads) (heads_row heads) judged in
    pass_heard seen (record { most = seen.most; found = seen.found; rows = seen.rows; copies = copies }) k place (mask_of seen.found) t (next_of k place seen asked fed)
    (ap (λ n. heads_fault seen.most place n heads) (sym count) ∙ is.0) is.1 refl refl refl (counts ∙ ap (at_place counted k) pass)

pub mask_by : (seen : Kept) (k place masked : ℕ) (t : Token) (row : Option (List (List ℕ))) (found : Verdict) (rows : List (List (List ℕ))) (before copies : List CopyKept) → IsAsked k seen → IfSome (slice_get seen.copies k) (λ c. place ≡ c.fed) → masked ≡ length (mask_of seen.found) → Masked row ≡ heads_judged seen.most place masked (heads_with k (Some t) seen.copies) → found ≡ Agreed (mask_of seen.found ++ place ∷ []) → rows ≡ seen.rows ++ option_to_list row → before ≡ map passed seen.copies → copies ≡ at_place counted k before → HasHeard k t seen (record { most = seen.most; found = found; rows = rows; copies = copies })
mask_by seen k place masked t row found rows before copies asked fed count judged find keep pass counts =
    let heads = heads_with k (Some t) seen.copies in
    let is = judged_masked row (heads_fault seen.most place masked heads) (heads_masked heads) (heads_row heads) judged in
    mask_heard seen (record { most = seen.most; found = found; rows = rows; copies = copies }) k place (mask_of seen.found) t (next_of k place seen asked fed)
    (ap (λ n. heads_fault seen.most place n heads) (sym count) ∙ is.0) is.1 refl find (keep ∙ ap (λ r. seen.rows ++ option_to_list r) is.2) (counts ∙ ap (at_place counted k) pass)

pub wait_by : (seen : Kept) (k : ℕ) (t : Token) (copies : List CopyKept) → IsOpenIn k seen.copies → is_agreed seen.found ≡ true → only_behind k seen.copies ≡ false → copies ≡ at_place (waits t) k seen.copies → HasHeard k t seen (record { most = seen.most; found = seen.found; rows = seen.rows; copies = copies })
wait_by seen k t copies may agreed only waiting = wait_heard seen (record { most = seen.most; found = seen.found; rows = seen.rows; copies = copies }) k t may agreed only refl refl refl waiting

-- whether or not there was room for the token
pub wait_reached : {A E : Type 0} (seen : Kept) (k : ℕ) (t : Token) (copies : List CopyKept) (r : Result A E) → IsOpenIn k seen.copies → is_agreed seen.found ≡ true → only_behind k seen.copies ≡ false → OnOk r (copies ≡ at_place (waits t) k seen.copies) → OnErr r (copies ≡ seen.copies) → IsReached seen → IsReached (record { most = seen.most; found = seen.found; rows = seen.rows; copies = copies })
wait_reached seen k t copies (Ok x) may agreed only ok err reached =
    reached_heard seen (record { most = seen.most; found = seen.found; rows = seen.rows; copies = copies }) k t (wait_by seen k t copies may agreed only ok) reached
wait_reached seen k t copies (Err x) may agreed only ok err reached =
    let P : List CopyKept → Type 0 = λ xs. IsReached (record { most = seen.most; found = seen.found; rows = seen.rows; copies = xs }) in
    subst P (sym err) reached

pub wait_answers : {A E : Type 0} (seen : Kept) (k : ℕ) (t : Token) (copies : List CopyKept) (r : Result A E) → IsOpenIn k seen.copies → is_agreed seen.found ≡ true → only_behind k seen.copies ≡ false → OnOk r (copies ≡ at_place (waits t) k seen.copies) → OnOk r (HasHeard k t seen (record { most = seen.most; found = seen.found; rows = seen.rows; copies = copies }))
wait_answers seen k t copies (Ok x) may agreed only ok = wait_by seen k t copies may agreed only ok
wait_answers seen k t copies (Err x) may agreed only ok = tt

pub fewer_after : (f : CopyKept → CopyKept) → ((c : CopyKept) → (f c).fed ≡ c.fed) → (seen old : Kept) (m k : ℕ) (copies : List CopyKept) → seen ≡ old → IfSome (slice_get old.copies k) (λ c. c.fed < m) → copies ≡ map f seen.copies → IfSome (slice_get copies k) (λ c. c.fed < m)
fewer_after f same seen old m k copies view few is =
    let P : Kept → Type 0 = λ v. IfSome (slice_get v.copies k) (λ c. c.fed < m) in
    let Q : List CopyKept → Type 0 = λ xs. IfSome (slice_get xs k) (λ c. c.fed < m) in
    subst Q (sym is) (few_mapped f same m k seen.copies (subst P (sym view) few))
