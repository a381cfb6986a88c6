-- The last notes as they are held, one note more, and one note marked.
use Rattle.std.proofs.Common.{inl, inr, ◌≡◌, ℕ, zero, suc, ◌+◌, ◌-◌, ◌%◌, ◌<◌, ◌≤◌, true, cond, List, [], ◌∷◌, ◌++◌, length, drop, get_or, set, Option, Some, None, refl, sym, ap, subst, ◌∙◌, arith, length-append, length-set}
use Rattle.std.specs.Prelude.{slice_get, nat_lt}
use Rattle.std.specs.List.{position_or_len}
use Rattle.std.proofs.lemmas.Bool.{cases_lt, lt-ltb, le-ltb}
use Rattle.circular_buffer.specs.Buffer.{Buffer, buffer, keep_last}
use Rattle.rd_board.specs.declared.latest.BoardNote.{BoardNote}
use Rattle.rd_board.specs.Notes.{is_unkept, is_unkept_of, mark_first}
use Rattle.rd_board.specs.Latest.{CountsIds, KeepsLatest, mark_found, mark_place}
use Rattle.rd_board.proofs.Firsts.{first-append, first-tail, first-set}
use Rattle.rd_board.proofs.Counts.{counted_up, counted_down, counted_set, some_counted}
use Rattle.rd_board.proofs.Marks.{marked_at, marked_none}

-- there was room for the note
pub record Room (old new : Buffer BoardNote) (e : BoardNote) : Type 0 where
  pub items : new.items ≡ old.items ++ e ∷ []
  pub capacity : new.capacity ≡ 10000
  pub short : length old.items < 10000

-- the oldest note went
pub record Full (old new : Buffer BoardNote) (e o : BoardNote) : Type 0 where
  pub rest : List BoardNote
  pub was : old.items ≡ o ∷ rest
  pub items : new.items ≡ rest ++ e ∷ []
  pub capacity : new.capacity ≡ 10000
  pub long : length rest ≡ 9999

at_capacity : (old new : Buffer BoardNote) (e : BoardNote) → old.capacity ≡ 10000 → new ≡ buffer (keep_last old.capacity (old.items ++ e ∷ [])) old.capacity → new ≡ buffer (keep_last 10000 (old.items ++ e ∷ [])) 10000
at_capacity old new e cap is = is ∙ ap (λ n. buffer (keep_last n (old.items ++ e ∷ [])) n) cap

pub had_room : (old new : Buffer BoardNote) (counts : List ℕ) (first : ℕ) (e : BoardNote) → KeepsLatest old counts first → new ≡ buffer (keep_last old.capacity (old.items ++ e ∷ [])) old.capacity → None ≡ cond (nat_lt (length old.items) old.capacity) None (slice_get (old.items ++ e ∷ []) 0) → Room old new e
had_room old new counts first e h is none =
    let new_is = at_capacity old new e h.capacity is in
    let none_at = none ∙ ap (λ n. cond (nat_lt (length old.items) n) None (slice_get (old.items ++ e ∷ []) 0)) h.capacity in
    elim (cases_lt (length old.items) 10000) [
      | inl lt ↦ record {
        items = ap (λ b. b.items) new_is ∙ all (old.items ++ e ∷ []) (omega (arith, length-append old.items (e ∷ [])));
        capacity = ap (λ b. b.capacity) new_is;
        short = lt;
      }
      | inr ge ↦ absurd (taken old.items (none_at ∙ ap (λ t. cond t None (slice_get (old.items ++ e ∷ []) 0)) (le-ltb (length old.items) 10000 ge)))
    ]
  where
    all : (xs : List BoardNote) → length xs ≤ 10000 → keep_last 10000 xs ≡ xs
    all xs le = let start : length xs - 10000 ≡ 0 = omega arith in ap (λ n. drop n xs) start

    taken : (xs : List BoardNote) → None ≡ slice_get (xs ++ e ∷ []) 0 → ⊥
    taken [] e = cc e
    taken (x ∷ xs) e = cc e

pub was_full : (old new : Buffer BoardNote) (counts : List ℕ) (first : ℕ) (e o : BoardNote) → KeepsLatest old counts first → new ≡ buffer (keep_last old.capacity (old.items ++ e ∷ [])) old.capacity → Some o ≡ cond (nat_lt (length old.items) old.capacity) None (slice_get (old.items ++ e ∷ []) 0) → Full old new e o
was_full old new counts first e o h is some =
    let some_at = some ∙ ap (λ n. cond (nat_lt (length old.items) n) None (slice_get (old.items ++ e ∷ []) 0)) h.capacity in
    elim (cases_lt (length old.items) 10000) [
      | inl lt ↦ absurd (cc (some_at ∙ ap (λ t. cond t None (slice_get (old.items ++ e ∷ []) 0)) (lt-ltb (length old.items) 10000 lt)))
      | inr ge ↦ split old.items refl (some_at ∙ ap (λ t. cond t None (slice_get (old.items ++ e ∷ []) 0)) (le-ltb (length old.items) 10000 ge)) ge (at_capacity old new e h.capacity is) h.within
    ]
  where
    split : (xs : List BoardNote) → old.items ≡ xs → Some o ≡ slice_get (old.items ++ e ∷ []) 0 → 10000 ≤ length old.items → new ≡ buffer (keep_last 10000 (old.items ++ e ∷ [])) 10000 → length old.items ≤ 10000 → Full old new e o
    split [] was at ge new_is le = absurd (omega (arith, ap length was))
    split (x ∷ xs) was at ge new_is le =
        let same : o ≡ x = cc (at ∙ ap (λ ys. slice_get (ys ++ e ∷ []) 0) was) in
        let long = ap length was in
        let more = length-append (x ∷ xs) (e ∷ []) in
        let one : length ((x ∷ xs) ++ e ∷ []) - 10000 ≡ 1 = omega arith in
        record {
          rest = xs;
          was = was ∙ ap {A = BoardNote} (λ y. y ∷ xs) (sym same);
          items = ap (λ b. b.items) new_is ∙ ap (λ ys. keep_last 10000 (ys ++ e ∷ [])) was ∙ ap (λ n. drop n ((x ∷ xs) ++ e ∷ [])) one;
          capacity = ap (λ b. b.capacity) new_is;
          long = omega arith;
        }

-- ---- there was room

pub room_first : (old new : Buffer BoardNote) (counts : List ℕ) (first : ℕ) (e : BoardNote) → KeepsLatest old counts first → Room old new e → first ≤ position_or_len is_unkept new.items
room_first old new counts first e h room =
    let further = first-append is_unkept old.items (e ∷ []) in
    let is = h.first in
    subst (λ xs. first ≤ position_or_len is_unkept xs) (sym room.items) (omega arith)

pub room_keeps : (old new : Buffer BoardNote) (counts counts' : List ℕ) (first first' : ℕ) (e : BoardNote) → KeepsLatest old counts first → Room old new e → counts' ≡ set counts (e.note.id % 16384) (get_or counts (e.note.id % 16384) 0 + 1) → first' ≡ position_or_len is_unkept new.items → KeepsLatest new counts' first'
room_keeps old new counts counts' first first' e h room up is =
    let short = room.short in
    let long = ap length room.items in
    let more = length-append old.items (e ∷ []) in
    record {
      capacity = room.capacity;
      within = omega arith;
      counts_ids = subst (λ cs. CountsIds new.items cs) (sym up) (subst (λ xs. CountsIds xs (set counts (e.note.id % 16384) (get_or counts (e.note.id % 16384) 0 + 1))) (sym room.items) (counted_up old.items e counts h.counts_ids));
      first = is;
    }

-- ---- the oldest went

pub full_down : (old new : Buffer BoardNote) (counts : List ℕ) (first : ℕ) (e o : BoardNote) → KeepsLatest old counts first → (full : Full old new e o) → CountsIds full.rest (set counts (o.note.id % 16384) (get_or counts (o.note.id % 16384) 0 - 1))
full_down old new counts first e o h full = counted_down o full.rest counts (subst (λ xs. CountsIds xs counts) full.was h.counts_ids)

pub full_some : (old new : Buffer BoardNote) (counts : List ℕ) (first : ℕ) (e o : BoardNote) → KeepsLatest old counts first → Full old new e o → 0 < get_or counts (o.note.id % 16384) 0
full_some old new counts first e o h full = some_counted o full.rest counts (subst (λ xs. CountsIds xs counts) full.was h.counts_ids)

pub full_first : (old new : Buffer BoardNote) (counts : List ℕ) (first : ℕ) (e o : BoardNote) → KeepsLatest old counts first → Full old new e o → first - 1 ≤ position_or_len is_unkept new.items
full_first old new counts first e o h full =
    let from : first ≤ position_or_len is_unkept (o ∷ full.rest) = subst (λ xs. first ≤ position_or_len is_unkept xs) full.was (omega (arith, h.first)) in
    let nearer = first-tail is_unkept o full.rest first from in
    let further = first-append is_unkept full.rest (e ∷ []) in
    subst (λ xs. first - 1 ≤ position_or_len is_unkept xs) (sym full.items) (omega arith)

pub full_keeps : (old new : Buffer BoardNote) (counts down up : List ℕ) (first first' : ℕ) (e o : BoardNote) → KeepsLatest old counts first → Full old new e o → down ≡ set counts (o.note.id % 16384) (get_or counts (o.note.id % 16384) 0 - 1) → up ≡ set down (e.note.id % 16384) (get_or down (e.note.id % 16384) 0 + 1) → first' ≡ position_or_len is_unkept new.items → KeepsLatest new up first'
full_keeps old new counts down up first first' e o h full down_is up_is is =
    let long = ap length full.items in
    let rest = full.long in
    let more = length-append full.rest (e ∷ []) in
    let counted : CountsIds full.rest down = subst (λ cs. CountsIds full.rest cs) (sym down_is) (full_down old new counts first e o h full) in
    record {
      capacity = full.capacity;
      within = omega arith;
      counts_ids = subst (λ cs. CountsIds new.items cs) (sym up_is) (subst (λ xs. CountsIds xs (set down (e.note.id % 16384) (get_or down (e.note.id % 16384) 0 + 1))) (sym full.items) (counted_up full.rest e down counted));
      first = is;
    }

-- ---- a note is marked

found_length : (notes : List BoardNote) (place : ℕ) (o : Option BoardNote) → length (mark_found notes place o) ≡ length notes
found_length notes place None = refl
found_length notes place (Some n) = length-set notes place (record n { is_kept = true })

pub mark_counts : (notes : List BoardNote) (counts : List ℕ) (place : ℕ) → CountsIds notes counts → CountsIds (mark_place notes place) counts
mark_counts notes counts place h = go (slice_get notes place) refl
  where
    go : (o : Option BoardNote) → slice_get notes place ≡ o → CountsIds (mark_found notes place o) counts
    go None is = h
    go (Some n) is = counted_set notes counts place n h is true

pub mark_from : (notes : List BoardNote) (place : ℕ) → position_or_len is_unkept notes ≤ position_or_len is_unkept (mark_place notes place)
mark_from notes place = go (slice_get notes place)
  where
    go : (o : Option BoardNote) → position_or_len is_unkept notes ≤ position_or_len is_unkept (mark_found notes place o)
    go None = omega arith
    go (Some n) = first-set is_unkept notes place (record n { is_kept = true }) refl

pub mark_keeps : (old new : Buffer BoardNote) (counts : List ℕ) (first first' place : ℕ) → KeepsLatest old counts first → new.items ≡ mark_place old.items place → new.capacity ≡ old.capacity → first' ≡ position_or_len is_unkept new.items → KeepsLatest new counts first'
mark_keeps old new counts first first' place h items capacity is = record {
  capacity = capacity ∙ h.capacity;
  within = omega (arith, h.within, ap length items, found_length old.items place (slice_get old.items place));
  counts_ids = subst (λ xs. CountsIds xs counts) (sym items) (mark_counts old.items counts place h.counts_ids);
  first = is;
}

within : (xs : List BoardNote) (i : ℕ) → i < length xs → slice_get xs i ≡ None → ⊥
within [] i lt at = absurd (omega arith)
within (x ∷ xs) zero lt at = cc at
within (x ∷ xs) (suc i) lt at = within xs i (omega arith) at

-- the first unmarked note of an id
pub mark_is : (id : ℕ) (notes : List BoardNote) (place : ℕ) → place ≡ position_or_len (is_unkept_of id) notes → mark_place notes place ≡ mark_first id notes
mark_is id notes place is = go (slice_get notes place) refl
  where
    go : (o : Option BoardNote) → slice_get notes place ≡ o → mark_found notes place o ≡ mark_first id notes
    go (Some n) at = sym (marked_at id notes place n at is)
    go None at = elim (cases_lt place (length notes)) [ inl lt ↦ absurd (within notes place lt at) | inr ge ↦ sym (marked_none id notes (omega arith)) ]
