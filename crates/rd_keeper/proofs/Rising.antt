-- Notes by rising id: where an id stands among them.
use Rattle.std.proofs.Common.{inl, inr, ◌≡◌, ℕ, zero, suc, ◌<◌, ◌≤◌, Bool, true, false, cond, List, [], ◌∷◌, ◌++◌, length, take, drop, get_or, Some, None, refl, sym, ap, ◌∙◌, arith}
use Rattle.std.specs.Prelude.{slice_get, find, filter, ◌||◌, All}
use Rattle.std.specs.List.{AllWithin}
use Rattle.std.specs.List.Sorted.{IsNonDecreasingBy, IsPartitionPoint}
use Rattle.std.proofs.lemmas.Bool.{cases_lt, lt-ltb, le-ltb, ltb-true, le-leb, lt-leb}
use Rattle.std.proofs.lemmas.Bool.Decides.{eqb_tells}
use Rattle.std.proofs.lemmas.List.Elements.{All-cons, All-append, All-filter, filter_passes}
use Rattle.std.proofs.lemmas.List.Folds.{list_any_none}
use Rattle.rd_base.specs.declared.session_note.SessionNote.{SessionNote}
use Rattle.rd_keeper.specs.Notes.{has_id, is_below, is_above, is_from, is_id_in, is_kept, with_note, AreRising}

head_of : (P : SessionNote → Type 0) (x : SessionNote) (xs : List SessionNote) → All P (x ∷ xs) → P x
head_of P x xs h = h zero x (omega arith)

tail_of : (P : SessionNote → Type 0) (x : SessionNote) (xs : List SessionNote) → All P (x ∷ xs) → All P xs
tail_of P x xs h = λ k d lt. h (suc k) d (omega arith)

none_in : (P : SessionNote → Type 0) → All P []
none_in P = λ k d lt. absurd (omega arith)

weaker : (P Q : SessionNote → Type 0) → ((x : SessionNote) → P x → Q x) → (xs : List SessionNote) → All P xs → All Q xs
weaker P Q f xs h = λ k d lt. f (get_or xs k d) (h k d lt)

-- ---- the split at an id

pub rising_by_index : (notes : List SessionNote) → AreRising notes → IsNonDecreasingBy (λ n. n.id) notes
rising_by_index [] rising = λ i j d le lt. absurd (omega arith)
rising_by_index (n ∷ notes) rising = let rest = rising_by_index notes rising.1 in λ i j d le lt. at rest i j d le lt
  where
    at : IsNonDecreasingBy (λ n. n.id) notes → (i j : ℕ) (d : SessionNote) → i ≤ j → j < suc (length notes) → (get_or (n ∷ notes) i d).id ≤ (get_or (n ∷ notes) j d).id
    at rest zero zero d le lt = omega arith
    at rest zero (suc j) d le lt = let above = rising.0 j d (omega arith) in omega arith
    at rest (suc i) zero d le lt = absurd (omega arith)
    at rest (suc i) (suc j) d le lt = rest i j d (omega arith) (omega arith)

pub filter_front : {X : Type 0} (p : X → Bool) (xs : List X) (i : ℕ) → i ≤ length xs → AllWithin (λ x. p x ≡ true) xs 0 i → AllWithin (λ x. p x ≡ false) xs i (length xs) → filter p xs ≡ take i xs
filter_front p [] zero le pass fail = refl
filter_front p [] (suc i) le pass fail = absurd (omega arith)
filter_front p (x ∷ xs) zero le pass fail =
    let fails : p x ≡ false = fail zero x (omega arith) (omega arith) in
    ap (λ t. cond t (x ∷ filter p xs) (filter p xs)) fails
    ∙ filter_front p xs zero (omega arith) (λ k d low high. absurd (omega arith)) (λ k d low high. fail (suc k) d (omega arith) (omega arith))
filter_front p (x ∷ xs) (suc i) le pass fail =
    let passes : p x ≡ true = pass zero x (omega arith) (omega arith) in
    ap (λ t. cond t (x ∷ filter p xs) (filter p xs)) passes
    ∙ ap (λ ys. x ∷ ys) (filter_front p xs i (omega arith) (λ k d low high. pass (suc k) d (omega arith) (omega arith)) (λ k d low high. fail (suc k) d (omega arith) (omega arith)))

pub filter_back : {X : Type 0} (p : X → Bool) (xs : List X) (i : ℕ) → i ≤ length xs → AllWithin (λ x. p x ≡ false) xs 0 i → AllWithin (λ x. p x ≡ true) xs i (length xs) → filter p xs ≡ drop i xs
filter_back p [] zero le fail pass = refl
filter_back p [] (suc i) le fail pass = absurd (omega arith)
filter_back p (x ∷ xs) zero le fail pass =
    let passes : p x ≡ true = pass zero x (omega arith) (omega arith) in
    ap (λ t. cond t (x ∷ filter p xs) (filter p xs)) passes
    ∙ ap (λ ys. x ∷ ys) (filter_back p xs zero (omega arith) (λ k d low high. absurd (omega arith)) (λ k d low high. pass (suc k) d (omega arith) (omega arith)) ∙ whole xs)
  where
    whole : {X : Type 0} (ys : List X) → drop zero ys ≡ ys
    whole ys = refl
filter_back p (x ∷ xs) (suc i) le fail pass =
    let fails : p x ≡ false = fail zero x (omega arith) (omega arith) in
    ap (λ t. cond t (x ∷ filter p xs) (filter p xs)) fails
    ∙ filter_back p xs i (omega arith) (λ k d low high. fail (suc k) d (omega arith) (omega arith)) (λ k d low high. pass (suc k) d (omega arith) (omega arith))

-- a note that isn't below the id is one from it on
pub from_below : (id : ℕ) (n : SessionNote) → is_below id n ≡ true → is_from id n ≡ false
from_below id n h = lt-leb id n.id (ltb-true n.id id h)

pub from_not_below : (id : ℕ) (n : SessionNote) → is_below id n ≡ false → is_from id n ≡ true
from_not_below id n h = elim (cases_lt n.id id) [ inl lt ↦ absurd (cc (lt-ltb n.id id lt)) | inr ge ↦ le-leb id n.id ge ]

pub slice_get-drop : {X : Type 0} (xs : List X) (i : ℕ) → slice_get (drop i xs) 0 ≡ slice_get xs i
slice_get-drop [] zero = refl
slice_get-drop [] (suc i) = refl
slice_get-drop (x ∷ xs) zero = refl
slice_get-drop (x ∷ xs) (suc i) = slice_get-drop xs i

-- ---- an id among them

-- an id that is below all notes isn't kept
pub none_among : (id : ℕ) (notes : List SessionNote) → All (λ m. id < m.id) notes → is_kept id notes ≡ false
none_among id notes above = list_any_none (has_id id) notes (weaker (λ m. id < m.id) (λ m. has_id id m ≡ false) differs notes above)
  where
    differs : (m : SessionNote) → id < m.id → has_id id m ≡ false
    differs m lt = elim (eqb_tells m.id id) [ inl here ↦ absurd (omega (arith, here.1)) | inr other ↦ other.0 ]

pub none_above : (id : ℕ) (n : SessionNote) (notes : List SessionNote) → id < n.id → All (λ m. n.id < m.id) notes → is_kept id notes ≡ false
none_above id n notes below rising = none_among id notes (weaker (λ m. n.id < m.id) (λ m. id < m.id) (λ m lt. omega arith) notes rising)

pub find_none : (id : ℕ) (notes : List SessionNote) → is_kept id notes ≡ false → find (has_id id) notes ≡ None
find_none id [] none = refl
find_none id (n ∷ notes) none = go (has_id id n) none (λ e. find_none id notes e)
  where
    go : (t : Bool) → (t || is_kept id notes) ≡ false → (is_kept id notes ≡ false → find (has_id id) notes ≡ None) → cond t (Some n) (find (has_id id) notes) ≡ None
    go true e ih = absurd (cc e)
    go false e ih = ih e

-- an id is kept exactly where the first note from it on has it
pub held : (id : ℕ) (notes : List SessionNote) → AreRising notes → is_id_in id (slice_get (filter (is_from id) notes) 0) ≡ is_kept id notes
held id [] rising = refl
held id (n ∷ notes) rising = elim (eqb_tells n.id id) [
  | inl here ↦
      let from : is_from id n ≡ true = le-leb id n.id (omega (arith, here.1)) in
      ap (λ t. is_id_in id (slice_get (cond t (n ∷ filter (is_from id) notes) (filter (is_from id) notes)) 0)) from
      ∙ here.0 ∙ sym (ap (λ t. t || is_kept id notes) here.0)
  | inr other ↦ elim (cases_lt n.id id) [
    | inl lt ↦
        ap (λ t. is_id_in id (slice_get (cond t (n ∷ filter (is_from id) notes) (filter (is_from id) notes)) 0)) (lt-leb id n.id lt)
        ∙ held id notes rising.1 ∙ sym (ap (λ t. t || is_kept id notes) other.0)
    | inr ge ↦
        ap (λ t. is_id_in id (slice_get (cond t (n ∷ filter (is_from id) notes) (filter (is_from id) notes)) 0)) (le-leb id n.id ge)
        ∙ other.0 ∙ sym (ap (λ t. t || is_kept id notes) other.0 ∙ none_above id n notes (omega (arith, other.1)) rising.0)
  ]
]

-- and it is that note then
pub found : (id : ℕ) (notes : List SessionNote) → AreRising notes → find (has_id id) notes ≡ cond (is_id_in id (slice_get (filter (is_from id) notes) 0)) (slice_get (filter (is_from id) notes) 0) None
found id [] rising = refl
found id (n ∷ notes) rising = elim (eqb_tells n.id id) [
  | inl here ↦
      let from : is_from id n ≡ true = le-leb id n.id (omega (arith, here.1)) in
      ap (λ t. cond t (Some n) (find (has_id id) notes)) here.0
      ∙ sym (ap (λ t. cond (is_id_in id (slice_get (cond t (n ∷ filter (is_from id) notes) (filter (is_from id) notes)) 0)) (slice_get (cond t (n ∷ filter (is_from id) notes) (filter (is_from id) notes)) 0) None) from
      ∙ ap (λ t. cond t (Some n) None) here.0)
  | inr other ↦ elim (cases_lt n.id id) [
    | inl lt ↦
        ap (λ t. cond t (Some n) (find (has_id id) notes)) other.0
        ∙ found id notes rising.1
        ∙ sym (ap (λ t. cond (is_id_in id (slice_get (cond t (n ∷ filter (is_from id) notes) (filter (is_from id) notes)) 0)) (slice_get (cond t (n ∷ filter (is_from id) notes) (filter (is_from id) notes)) 0) None) (lt-leb id n.id lt))
    | inr ge ↦
        ap (λ t. cond t (Some n) (find (has_id id) notes)) other.0
        ∙ find_none id notes (none_above id n notes (omega (arith, other.1)) rising.0)
        ∙ sym (ap (λ t. cond (is_id_in id (slice_get (cond t (n ∷ filter (is_from id) notes) (filter (is_from id) notes)) 0)) (slice_get (cond t (n ∷ filter (is_from id) notes) (filter (is_from id) notes)) 0) None) (le-leb id n.id ge)
        ∙ ap (λ t. cond t (Some n) None) other.0)
  ]
]

-- ---- a note more

-- where no note has the id, those from it on are above it
above : (id : ℕ) (notes : List SessionNote) → is_kept id notes ≡ false → filter (is_above id) notes ≡ filter (is_from id) notes
above id [] none = refl
above id (n ∷ notes) none = elim (eqb_tells n.id id) [
  | inl here ↦ absurd (cc (sym (ap (λ t. t || is_kept id notes) here.0) ∙ none))
  | inr other ↦
      let rest = above id notes (sym (ap (λ t. t || is_kept id notes) other.0) ∙ none) in
      let same : is_above id n ≡ is_from id n = elim (cases_lt n.id id) [
        | inl lt ↦ le-ltb id n.id (omega arith) ∙ sym (lt-leb id n.id lt)
        | inr ge ↦ lt-ltb id n.id (omega (arith, other.1)) ∙ sym (le-leb id n.id ge)
      ] in
      ap (λ t. cond t (n ∷ filter (is_above id) notes) (filter (is_above id) notes)) same
      ∙ ap (λ ns. cond (is_from id n) (n ∷ ns) ns) rest
]

-- a note that is put between the lesser and the greater
pub put_fresh : (notes : List SessionNote) (note : SessionNote) (place : ℕ) → is_kept note.id notes ≡ false → filter (is_below note.id) notes ≡ take place notes → filter (is_from note.id) notes ≡ drop place notes → take place notes ++ note ∷ drop place notes ≡ with_note notes note
put_fresh notes note place none front back =
    ap (λ ns. ns ++ note ∷ drop place notes) (sym front)
    ∙ ap (λ ns. filter (is_below note.id) notes ++ note ∷ ns) (sym (above note.id notes none ∙ back))
    ∙ sym (ap (λ t. cond t notes (filter (is_below note.id) notes ++ note ∷ filter (is_above note.id) notes)) none)

pub put_repeat : (notes : List SessionNote) (note : SessionNote) → is_kept note.id notes ≡ true → with_note notes note ≡ notes
put_repeat notes note is = ap (λ t. cond t notes (filter (is_below note.id) notes ++ note ∷ filter (is_above note.id) notes)) is

rising_filter : (p : SessionNote → Bool) (notes : List SessionNote) → AreRising notes → AreRising (filter p notes)
rising_filter p [] rising = tt
rising_filter p (n ∷ notes) rising = go (p n) (rising_filter p notes rising.1)
  where
    go : (t : Bool) → AreRising (filter p notes) → AreRising (cond t (n ∷ filter p notes) (filter p notes))
    go true ih = (All-filter p (λ m. n.id < m.id) notes rising.0, ih)
    go false ih = ih

rising_join : (xs : List SessionNote) (y : SessionNote) (ys : List SessionNote) → AreRising xs → All (λ x. x.id < y.id) xs → AreRising (y ∷ ys) → AreRising (xs ++ y ∷ ys)
rising_join [] y ys rising below rest = rest
rising_join (x ∷ xs) y ys rising below rest =
    let first : x.id < y.id = head_of (λ m. m.id < y.id) x xs below in
    let behind = All-append (λ m. x.id < m.id) xs (y ∷ ys) rising.0 (All-cons (λ m. x.id < m.id) y ys first (weaker (λ m. y.id < m.id) (λ m. x.id < m.id) (λ m lt. omega arith) ys rest.0)) in
    (behind, rising_join xs y ys rising.1 (tail_of (λ m. m.id < y.id) x xs below) rest)

pub rising_put : (notes : List SessionNote) (note : SessionNote) → AreRising notes → AreRising (with_note notes note)
rising_put notes note rising = go (is_kept note.id notes)
  where
    below_it : All (λ x. x.id < note.id) (filter (is_below note.id) notes)
    below_it = weaker (λ x. is_below note.id x ≡ true) (λ x. x.id < note.id) (λ x t. ltb-true x.id note.id t) (filter (is_below note.id) notes) (filter_passes (is_below note.id) notes)

    above_it : All (λ x. note.id < x.id) (filter (is_above note.id) notes)
    above_it = weaker (λ x. is_above note.id x ≡ true) (λ x. note.id < x.id) (λ x t. ltb-true note.id x.id t) (filter (is_above note.id) notes) (filter_passes (is_above note.id) notes)

    go : (t : Bool) → AreRising (cond t notes (filter (is_below note.id) notes ++ note ∷ filter (is_above note.id) notes))
    go true = rising
    go false = rising_join (filter (is_below note.id) notes) note (filter (is_above note.id) notes) (rising_filter (is_below note.id) notes rising) below_it (above_it, rising_filter (is_above note.id) notes rising)

-- ---- a search for an id

pub split_below : (id : ℕ) (notes : List SessionNote) (place : ℕ) → place ≤ length notes → IsPartitionPoint (λ n. is_below id n ≡ true) (λ n. is_below id n ≡ false) notes place → filter (is_below id) notes ≡ take place notes
split_below id notes place within h = filter_front (is_below id) notes place within h.0 h.1

pub split_from : (id : ℕ) (notes : List SessionNote) (place : ℕ) → place ≤ length notes → IsPartitionPoint (λ n. is_below id n ≡ true) (λ n. is_below id n ≡ false) notes place → filter (is_from id) notes ≡ drop place notes
split_from id notes place within h = filter_back (is_from id) notes place within (λ k d low high. from_below id (get_or notes k d) (h.0 k d low high)) (λ k d low high. from_not_below id (get_or notes k d) (h.1 k d low high))

-- what stands at an id's place
pub at_place : (id : ℕ) (notes : List SessionNote) (place : ℕ) → filter (is_from id) notes ≡ drop place notes → slice_get (filter (is_from id) notes) 0 ≡ slice_get notes place
at_place id notes place from = ap (λ ns. slice_get ns 0) from ∙ slice_get-drop notes place

pub held_at : (id : ℕ) (notes : List SessionNote) (place : ℕ) → AreRising notes → filter (is_from id) notes ≡ drop place notes → is_id_in id (slice_get notes place) ≡ is_kept id notes
held_at id notes place rising from = ap (is_id_in id) (sym (at_place id notes place from)) ∙ held id notes rising

pub found_at : (id : ℕ) (notes : List SessionNote) (place : ℕ) → AreRising notes → filter (is_from id) notes ≡ drop place notes → find (has_id id) notes ≡ cond (is_id_in id (slice_get notes place)) (slice_get notes place) None
found_at id notes place rising from = found id notes rising ∙ ap (λ o. cond (is_id_in id o) o None) (at_place id notes place from)
