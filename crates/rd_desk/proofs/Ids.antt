-- How often an id is used.
use Rattle.std.proofs.Common.{◌≡◌, ℕ, ◌+◌, ◌≤◌, Bool, true, false, cond, List, [], ◌∷◌, ◌++◌, length, drop, inl, inr, refl, sym, ap, ◌∙◌, arith}
use Rattle.std.specs.Prelude.{◌==◌, ◌||◌, count_by}
use Rattle.std.specs.List.{list_any}
use Rattle.std.proofs.lemmas.List.Sums.{sum_by-take-drop, sum_by_push, sum_by-cons}
use Rattle.rd_doors.specs.Visits.{Holds, without}
use Rattle.rd_base.specs.declared.session_note.SessionNote.{SessionNote}
use Rattle.rd_board.specs.declared.latest.BoardNote.{BoardNote}
use Rattle.rd_board.specs.Notes.{fresh, has_id, mark_first}
use Rattle.rd_board.proofs.Marks.{sum-mark_first}

ids-cons : (id n : ℕ) (ns : List ℕ) → count_by (λ m. m == id) (n ∷ ns) ≡ cond (n == id) 1 0 + count_by (λ m. m == id) ns
ids-cons id n ns = sum_by-cons (λ m. cond (m == id) 1 0) n ns

pub ids-push : (id n : ℕ) (ns : List ℕ) → count_by (λ m. m == id) (ns ++ n ∷ []) ≡ count_by (λ m. m == id) ns + cond (n == id) 1 0
ids-push id n ns = sum_by_push (λ m. cond (m == id) 1 0) ns n

-- without an id that was there it is there once less, and any other as often
pub ids-without : (id n : ℕ) (ns : List ℕ) → Holds n ns → count_by (λ m. m == id) ns ≡ cond (n == id) 1 0 + count_by (λ m. m == id) (without n ns)
ids-without id n [] held = absurd held
ids-without id n (m ∷ ns) held = go (m == n) refl held (ids-without id n ns)
  where
    go : (t : Bool) → (m == n) ≡ t → Holds n (m ∷ ns) → (Holds n ns → count_by (λ k. k == id) ns ≡ cond (n == id) 1 0 + count_by (λ k. k == id) (without n ns))
        → count_by (λ k. k == id) (m ∷ ns) ≡ cond (n == id) 1 0 + count_by (λ k. k == id) (cond t ns (m ∷ without n ns))
    go true is held ih =
        let same : m ≡ n = grind arith in
        ids-cons id m ns ∙ ap (λ k. cond (k == id) 1 0 + count_by (λ k. k == id) ns) same
    go false is (inl same) ih = absurd (grind arith)
    go false is (inr held) ih =
        let more = ih held in
        let left = ids-cons id m ns in
        let right = ids-cons id m (without n ns) in
        omega arith

pub length-without : (n : ℕ) (ns : List ℕ) → Holds n ns → length ns ≡ 1 + length (without n ns)
length-without n [] held = absurd held
length-without n (m ∷ ns) held = go (m == n) refl held (length-without n ns)
  where
    go : (t : Bool) → (m == n) ≡ t → Holds n (m ∷ ns) → (Holds n ns → length ns ≡ 1 + length (without n ns)) → length (m ∷ ns) ≡ 1 + length (cond t ns (m ∷ without n ns))
    go true is held ih = omega arith
    go false is (inl same) ih = absurd (grind arith)
    go false is (inr held) ih = let more = ih held in omega arith

pub held_counts : (n : ℕ) (ns : List ℕ) → Holds n ns → 1 ≤ count_by (λ m. m == n) ns
held_counts n ns held =
    let less = ids-without n n ns held in
    let one : cond {A = ℕ} (n == n) 1 0 ≡ 1 = grind arith in
    omega arith

-- ---- of notes

pub notes-fresh : (id : ℕ) (note : SessionNote) (ns : List BoardNote) → count_by (has_id id) (ns ++ fresh note ∷ []) ≡ count_by (has_id id) ns + cond (note.id == id) 1 0
notes-fresh id note ns = sum_by_push (λ n. cond (has_id id n) 1 0) ns (fresh note)

pub notes-drop : (id k : ℕ) (ns : List BoardNote) → count_by (has_id id) (drop k ns) ≤ count_by (has_id id) ns
notes-drop id k ns = let both = sum_by-take-drop (λ n. cond (has_id id n) 1 0) ns k in omega arith

pub notes-mark_first : (id m : ℕ) (ns : List BoardNote) → count_by (has_id id) (mark_first m ns) ≡ count_by (has_id id) ns
notes-mark_first id m ns = sum-mark_first (λ note. cond (note.id == id) 1 0) m ns

-- an id that no note has
pub unused : (id : ℕ) (ns : List BoardNote) → count_by (has_id id) ns ≡ 0 → list_any (has_id id) ns ≡ false
unused id [] none = refl
unused id (n ∷ ns) none = go (has_id id n) (sym (sum_by-cons (λ m. cond (has_id id m) 1 0) n ns) ∙ none) (unused id ns)
  where
    go : (t : Bool) → cond t 1 0 + count_by (has_id id) ns ≡ 0 → (count_by (has_id id) ns ≡ 0 → list_any (has_id id) ns ≡ false) → (t || list_any (has_id id) ns) ≡ false
    go true e ih = absurd (omega arith)
    go false e ih = ih (omega arith)

pub held_last : (n : ℕ) (ns : List ℕ) → Holds n (ns ++ n ∷ [])
held_last n [] = inl refl
held_last n (m ∷ ns) = inr (held_last n ns)
