-- The note of an id is marked kept.
use Rattle.std.proofs.Common.{◌≡◌, ℕ, zero, suc, ◌+◌, ◌≤◌, Bool, true, false, cond, not, List, [], ◌∷◌, length, set, Some, refl, sym, ap, ◌∙◌, arith}
use Rattle.std.specs.Prelude.{slice_get, sum_by, ◌||◌, ◌&&◌}
use Rattle.std.specs.List.{position_or_len, list_any}
use Rattle.std.proofs.lemmas.List.Sums.{sum_by-cons}
use Rattle.rd_board.specs.declared.latest.BoardNote.{BoardNote}
use Rattle.rd_base.specs.declared.session_note.SessionNote.{SessionNote}
use Rattle.rd_board.specs.Notes.{has_id, is_unkept, is_unkept_of, mark_first}

pub length-mark_first : (id : ℕ) (notes : List BoardNote) → length (mark_first id notes) ≡ length notes
length-mark_first id [] = refl
length-mark_first id (n ∷ notes) = go (is_unkept_of id n) (length-mark_first id notes)
  where
    go : (t : Bool) → length (mark_first id notes) ≡ length notes → length (cond t (record n { is_kept = true } ∷ notes) (n ∷ mark_first id notes)) ≡ suc (length notes)
    go true ih = refl
    go false ih = ap suc ih

-- a sum over the notes themselves stays
pub sum-mark_first : (f : SessionNote → ℕ) (id : ℕ) (notes : List BoardNote) → sum_by (λ n. f n.note) (mark_first id notes) ≡ sum_by (λ n. f n.note) notes
sum-mark_first f id [] = refl
sum-mark_first f id (n ∷ notes) = go (is_unkept_of id n) (sum-mark_first f id notes)
  where
    go : (t : Bool) → sum_by (λ n. f n.note) (mark_first id notes) ≡ sum_by (λ n. f n.note) notes → sum_by (λ n. f n.note) (cond t (record n { is_kept = true } ∷ notes) (n ∷ mark_first id notes)) ≡ sum_by (λ n. f n.note) (n ∷ notes)
    go true ih = sum_by-cons (λ n. f n.note) (record n { is_kept = true }) notes ∙ sym (sum_by-cons (λ n. f n.note) n notes)
    go false ih = sum_by-cons (λ n. f n.note) n (mark_first id notes) ∙ ap (λ k. f n.note + k) ih ∙ sym (sum_by-cons (λ n. f n.note) n notes)

pub marked_at : (id : ℕ) (notes : List BoardNote) (i : ℕ) (n : BoardNote) → slice_get notes i ≡ Some n → i ≡ position_or_len (is_unkept_of id) notes → mark_first id notes ≡ set notes i (record n { is_kept = true })
marked_at id [] i n at is = absurd (cc at)
marked_at id (m ∷ notes) i n at is = go (is_unkept_of id m) i at is (λ j e h. marked_at id notes j n e h)
  where
    go : (t : Bool) (j : ℕ) → slice_get (m ∷ notes) j ≡ Some n → j ≡ cond (not t) (1 + position_or_len (is_unkept_of id) notes) 0 → ((k : ℕ) → slice_get notes k ≡ Some n → k ≡ position_or_len (is_unkept_of id) notes → mark_first id notes ≡ set notes k (record n { is_kept = true })) → cond t (record m { is_kept = true } ∷ notes) (m ∷ mark_first id notes) ≡ set (m ∷ notes) j (record n { is_kept = true })
    go true zero e h ih = let same : m ≡ n = cc e in ap {A = BoardNote} (λ k. record k { is_kept = true } ∷ notes) same
    go true (suc j) e h ih = absurd (omega arith)
    go false zero e h ih = absurd (omega arith)
    go false (suc j) e h ih = ap (λ ns. m ∷ ns) (ih j e (omega arith))

pub marked_none : (id : ℕ) (notes : List BoardNote) → length notes ≤ position_or_len (is_unkept_of id) notes → mark_first id notes ≡ notes
marked_none id [] past = refl
marked_none id (m ∷ notes) past = go (is_unkept_of id m) past (λ le. marked_none id notes le)
  where
    go : (t : Bool) → suc (length notes) ≤ cond (not t) (1 + position_or_len (is_unkept_of id) notes) 0 → (length notes ≤ position_or_len (is_unkept_of id) notes → mark_first id notes ≡ notes) → cond t (record m { is_kept = true } ∷ notes) (m ∷ mark_first id notes) ≡ m ∷ notes
    go true le ih = absurd (omega arith)
    go false le ih = ap (λ ns. m ∷ ns) (ih (omega arith))

-- where no note has the id, none is marked
pub marked_absent : (id : ℕ) (notes : List BoardNote) → list_any (has_id id) notes ≡ false → mark_first id notes ≡ notes
marked_absent id [] none = refl
marked_absent id (m ∷ notes) none = go (has_id id m) none (λ e. marked_absent id notes e)
  where
    go : (t : Bool) → (t || list_any (has_id id) notes) ≡ false → (list_any (has_id id) notes ≡ false → mark_first id notes ≡ notes) → cond (t && is_unkept m) (record m { is_kept = true } ∷ notes) (m ∷ mark_first id notes) ≡ m ∷ notes
    go true e ih = absurd (cc e)
    go false e ih = ap (λ ns. m ∷ ns) (ih e)

pub unkept_of_narrower : (id : ℕ) (n : BoardNote) → is_unkept n ≡ false → is_unkept_of id n ≡ false
unkept_of_narrower id n h = go (has_id id n) (is_unkept n) h
  where
    go : (t u : Bool) → u ≡ false → (t && u) ≡ false
    go true u e = e
    go false u e = refl
