-- One call more on a board.
use Rattle.std.proofs.Common.{inl, inr, ◌≡◌, ℕ, ◌+◌, ◌-◌, ◌<◌, ◌≤◌, Bool, true, false, cond, List, [], ◌∷◌, ◌++◌, length, take, drop, get_or, None, refl, sym, ap, ◌∙◌, arith, length-append, length-drop}
use Rattle.std.specs.Prelude.{slice_get, sum_by, count_by, option_to_list, nat_lt}
use Rattle.std.specs.List.{list_any}
use Rattle.std.proofs.lemmas.Bool.{cases_lt, lt-ltb, le-ltb}
use Rattle.std.proofs.lemmas.List.{take-append-le, drop-append-le, length-take, take_more, drop_more, take_at, drop_at, drop-drop}
use Rattle.std.proofs.lemmas.List.Sums.{fold_push, sum_by_push, sum_by-append, sum_by-take-drop, sum_by-cons}
use Rattle.rd_base.specs.declared.session_note.SessionNote.{SessionNote}
use Rattle.rd_board.specs.Notes.{fresh, has_id, is_unkept, latest, before_latest, let_go, mark_first}
use Rattle.rd_board.specs.Calls.{Call, Began, Noted, MarkedKept, is_began, accepted_with, accepted, begun}
use Rattle.rd_board.specs.Board.{BoardView, IsAfter, Accepts, capped}
use Rattle.rd_board.proofs.Marks.{length-mark_first, sum-mark_first}

-- ---- the last notes, one note further

pub latest-push : {X : Type 0} (n : ℕ) (xs : List X) (y : X) → drop (length (xs ++ y ∷ []) - n) (xs ++ y ∷ []) ≡ drop (length (drop (length xs - n) xs ++ y ∷ []) - n) (drop (length xs - n) xs ++ y ∷ [])
latest-push n xs y =
    let a = length xs - n in
    let c = length (drop (length xs - n) xs ++ y ∷ []) - n in
    let long = length-append xs (y ∷ []) in
    let left = length-append (drop (length xs - n) xs) (y ∷ []) in
    let cut = length-drop (length xs - n) xs in
    let index : length (xs ++ y ∷ []) - n ≡ (length xs - n) + (length (drop (length xs - n) xs ++ y ∷ []) - n) = omega arith in
    ap (λ k. drop k (xs ++ y ∷ [])) index
    ∙ sym (drop-drop (length (drop (length xs - n) xs ++ y ∷ []) - n) (length xs - n) (xs ++ y ∷ []))
    ∙ ap (drop (length (drop (length xs - n) xs ++ y ∷ []) - n)) (drop-append-le (length xs - n) xs (y ∷ []) (omega arith))

-- what stands before the last notes is one more, where they are full: the oldest of them
pub before-push : {X : Type 0} (p : X → Bool) (n : ℕ) (xs : List X) (y : X) → 0 < n → count_by p (take (length (xs ++ y ∷ []) - n) (xs ++ y ∷ [])) ≡ count_by p (take (length xs - n) xs) + count_by p (option_to_list (cond (nat_lt (length (drop (length xs - n) xs)) n) None (slice_get (drop (length xs - n) xs) 0)))
before-push p n xs y some = elim (cases_lt (length xs) n) [ inl lt ↦ short lt | inr ge ↦ full ge ]
  where
    short : length xs < n → count_by p (take (length (xs ++ y ∷ []) - n) (xs ++ y ∷ [])) ≡ count_by p (take (length xs - n) xs) + count_by p (option_to_list (cond (nat_lt (length (drop (length xs - n) xs)) n) None (slice_get (drop (length xs - n) xs) 0)))
    short lt =
        let long = length-append xs (y ∷ []) in
        let cut = length-drop (length xs - n) xs in
        let none : length (xs ++ y ∷ []) - n ≡ 0 = omega arith in
        let no : length xs - n ≡ 0 = omega arith in
        let test : nat_lt (length (drop (length xs - n) xs)) n ≡ true = lt-ltb (length (drop (length xs - n) xs)) n (omega arith) in
        let left = ap (λ k. count_by p (take k (xs ++ y ∷ []))) none in
        let right = ap (λ k. count_by p (take k xs)) no in
        let last = ap (λ t. count_by p (option_to_list (cond t None (slice_get (drop (length xs - n) xs) 0)))) test in
        omega arith

    full : n ≤ length xs → count_by p (take (length (xs ++ y ∷ []) - n) (xs ++ y ∷ [])) ≡ count_by p (take (length xs - n) xs) + count_by p (option_to_list (cond (nat_lt (length (drop (length xs - n) xs)) n) None (slice_get (drop (length xs - n) xs) 0)))
    full ge =
        let long = length-append xs (y ∷ []) in
        let cut = length-drop (length xs - n) xs in
        let within : length xs - n < length xs = omega arith in
        let index : length (xs ++ y ∷ []) - n ≡ (length xs - n) + 1 = omega arith in
        let test : nat_lt (length (drop (length xs - n) xs)) n ≡ false = le-ltb (length (drop (length xs - n) xs)) n (omega arith) in
        let front = ap (λ k. take k (xs ++ y ∷ [])) index ∙ take-append-le ((length xs - n) + 1) xs (y ∷ []) (omega arith) ∙ take_more xs (length xs - n) y within in
        let counted = ap (count_by p) front ∙ sum_by_push (λ x. cond (p x) 1 0) (take (length xs - n) xs) (get_or xs (length xs - n) y) in
        let first = ap (λ l. slice_get l 0) (drop_more xs (length xs - n) y within) in
        let last = ap (λ t. count_by p (option_to_list (cond t None (slice_get (drop (length xs - n) xs) 0)))) test ∙ ap (λ o. count_by p (option_to_list o)) first in
        let one = sum_by-cons (λ x. cond (p x) 1 0) (get_or xs (length xs - n) y) [] in
        omega arith

-- ---- one call more

capped_add : (s x : ℕ) → capped (capped s + x) ≡ capped (s + x)
capped_add s x = omega arith

accepted-call : (calls : List Call) (call : Call) → accepted (calls ++ call ∷ []) ≡ accepted_with (accepted calls) call
accepted-call calls call = fold_push accepted_with [] calls call

begun-call : (calls : List Call) (call : Call) → begun (calls ++ call ∷ []) ≡ begun calls + cond (is_began call) 1 0
begun-call calls call = sum_by_push (λ c. cond (is_began c) 1 0) calls call

-- a call that accepts no note and marks none
same_notes : (before after : BoardView) (calls : List Call) (call : Call) → accepted (calls ++ call ∷ []) ≡ accepted calls → after.live + length (accepted calls) ≡ begun (calls ++ call ∷ []) → after.sessions ≡ before.sessions → after.exchanges ≡ before.exchanges → after.masked ≡ before.masked → after.unkept ≡ before.unkept → after.latest ≡ before.latest → IsAfter before calls → IsAfter after (calls ++ call ∷ [])
same_notes before after calls call same live sessions exchanges masked unkept last h = record {
  live = ap (λ l. after.live + length l) same ∙ live;
  sessions = sessions ∙ h.sessions ∙ ap (λ l. capped (length l)) (sym same);
  exchanges = exchanges ∙ h.exchanges ∙ ap (λ l. capped (sum_by (λ n. n.note.exchanges) l)) (sym same);
  masked = masked ∙ h.masked ∙ ap (λ l. capped (sum_by (λ n. n.note.masked) l)) (sym same);
  unkept = unkept ∙ h.unkept ∙ ap (λ l. capped (count_by is_unkept (before_latest l))) (sym same);
  latest = last ∙ h.latest ∙ ap latest (sym same);
}

pub after_began : (before : BoardView) (calls : List Call) → IsAfter before calls → IsAfter (record before { live = before.live + 1 }) (calls ++ Began ∷ [])
after_began before calls h =
    let one = begun-call calls Began in
    let live = h.live in
    same_notes before (record before { live = before.live + 1 }) calls Began (accepted-call calls Began) (omega arith) refl refl refl refl refl h

pub after_refused : (board : BoardView) (note : SessionNote) (calls : List Call) → list_any (has_id note.id) board.latest ≡ true → IsAfter board calls → IsAfter board (calls ++ Noted note ∷ [])
after_refused board note calls held h =
    let none = begun-call calls (Noted note) in
    let live = h.live in
    let is_held = ap (list_any (has_id note.id)) (sym h.latest) ∙ held in
    let same = accepted-call calls (Noted note) ∙ ap (λ t. cond t (accepted calls) (accepted calls ++ fresh note ∷ [])) is_held in
    same_notes board board calls (Noted note) same (omega arith) refl refl refl refl refl h

pub after_accepted : (before after : BoardView) (note : SessionNote) (calls : List Call) → list_any (has_id note.id) before.latest ≡ false → Accepts before note after → IsAfter before calls → IsAfter after (calls ++ Noted note ∷ [])
after_accepted before after note calls new a h =
    let notes = accepted calls in
    let none = begun-call calls (Noted note) in
    let is_new = ap (list_any (has_id note.id)) (sym h.latest) ∙ new in
    let more : accepted (calls ++ Noted note ∷ []) ≡ accepted calls ++ fresh note ∷ [] = accepted-call calls (Noted note) ∙ ap (λ t. cond t (accepted calls) (accepted calls ++ fresh note ∷ [])) is_new in
    let long = length-append (accepted calls) (fresh note ∷ []) in
    let longer = ap length more in
    let live = h.live in
    let lived = a.live in
    record {
      live = omega arith;
      sessions = a.sessions ∙ ap (λ k. capped (k + 1)) h.sessions ∙ capped_add (length (accepted calls)) 1 ∙ ap capped (sym (longer ∙ long));
      exchanges = a.exchanges ∙ ap (λ k. capped (k + note.exchanges)) h.exchanges ∙ capped_add (sum_by (λ n. n.note.exchanges) (accepted calls)) note.exchanges ∙ ap capped (sym (ap (sum_by (λ n. n.note.exchanges)) more ∙ sum_by_push (λ n. n.note.exchanges) (accepted calls) (fresh note)));
      masked = a.masked ∙ ap (λ k. capped (k + note.masked)) h.masked ∙ capped_add (sum_by (λ n. n.note.masked) (accepted calls)) note.masked ∙ ap capped (sym (ap (sum_by (λ n. n.note.masked)) more ∙ sum_by_push (λ n. n.note.masked) (accepted calls) (fresh note)));
      unkept = a.unkept ∙ ap (λ l. capped (before.unkept + count_by is_unkept (option_to_list (let_go l)))) h.latest ∙ ap (λ k. capped (k + count_by is_unkept (option_to_list (let_go (latest (accepted calls)))))) h.unkept ∙ capped_add (count_by is_unkept (before_latest (accepted calls))) (count_by is_unkept (option_to_list (let_go (latest (accepted calls))))) ∙ ap capped (sym (ap (λ l. count_by is_unkept (before_latest l)) more ∙ before-push is_unkept 10000 (accepted calls) (fresh note) (omega arith)));
      latest = a.latest ∙ ap (λ l. latest (l ++ fresh note ∷ [])) h.latest ∙ sym (ap latest more ∙ latest-push 10000 (accepted calls) (fresh note));
    }

pub after_marked : (before : BoardView) (id : ℕ) (calls : List Call) → IsAfter before calls → IsAfter (record before { latest = mark_first id before.latest }) (calls ++ MarkedKept id ∷ [])
after_marked before id calls h =
    let notes = accepted calls in
    let same = accepted-call calls (MarkedKept id) in
    let none = begun-call calls (MarkedKept id) in
    let live = h.live in
    let front = length-take (length (accepted calls) - 10000) (accepted calls) in
    let back = length-drop (length (accepted calls) - 10000) (accepted calls) in
    let kept = length-mark_first id (latest (accepted calls)) in
    let both = length-append (before_latest (accepted calls)) (mark_first id (latest (accepted calls))) in
    let long : length (accepted (calls ++ MarkedKept id ∷ [])) ≡ length (accepted calls) = ap length same ∙ omega arith in
    let cut : length (before_latest (accepted calls)) ≡ length (accepted (calls ++ MarkedKept id ∷ [])) - 10000 = omega arith in
    record {
      live = omega arith;
      sessions = h.sessions ∙ ap capped (sym long);
      exchanges = h.exchanges ∙ ap capped (sym (ap (sum_by (λ n. n.note.exchanges)) same ∙ summed (λ n. n.exchanges)));
      masked = h.masked ∙ ap capped (sym (ap (sum_by (λ n. n.note.masked)) same ∙ summed (λ n. n.masked)));
      unkept = h.unkept ∙ ap (λ l. capped (count_by is_unkept l)) (sym (ap (λ l. take (length (accepted (calls ++ MarkedKept id ∷ [])) - 10000) l) same ∙ take_at (before_latest (accepted calls)) (mark_first id (latest (accepted calls))) (length (accepted (calls ++ MarkedKept id ∷ [])) - 10000) cut));
      latest = ap (mark_first id) h.latest ∙ sym (ap (λ l. drop (length (accepted (calls ++ MarkedKept id ∷ [])) - 10000) l) same ∙ drop_at (before_latest (accepted calls)) (mark_first id (latest (accepted calls))) (length (accepted (calls ++ MarkedKept id ∷ [])) - 10000) cut);
    }
  where
    summed : (f : SessionNote → ℕ) → sum_by (λ n. f n.note) (before_latest (accepted calls) ++ mark_first id (latest (accepted calls))) ≡ sum_by (λ n. f n.note) (accepted calls)
    summed f =
        sum_by-append (λ n. f n.note) (before_latest (accepted calls)) (mark_first id (latest (accepted calls)))
        ∙ ap (λ k. sum_by (λ n. f n.note) (before_latest (accepted calls)) + k) (sum-mark_first f id (latest (accepted calls)))
        ∙ sum_by-take-drop (λ n. f n.note) (accepted calls) (length (accepted calls) - 10000)
