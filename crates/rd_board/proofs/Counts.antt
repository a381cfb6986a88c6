-- How many notes have an id of each remainder.
use Rattle.std.proofs.Common.{inl, inr, zero, suc, ◌≡◌, ◌≢◌, ℕ, ◌+◌, ◌-◌, ◌%◌, ◌<◌, ◌≤◌, Bool, true, false, cond, List, [], ◌∷◌, ◌++◌, length, get_or, set, replicate, refl, sym, ap, subst, ◌∙◌, arith, length-set, get_or-set_same, get_or-set_other}
use Rattle.std.specs.Prelude.{count_by, slice_get, Some, ◌||◌}
use Rattle.std.specs.List.{list_any}
use Rattle.std.proofs.lemmas.List.Sums.{sum_by-cons, sum_by_push, count_by-le-length}
use Rattle.std.proofs.lemmas.Bool.Decides.{eqb_tells}
use Rattle.std.proofs.lemmas.Nat.{mod_below}
use Rattle.std.proofs.lemmas.List.{get_or_default, length-replicate, get_or-replicate}
use Rattle.rd_board.specs.declared.latest.BoardNote.{BoardNote}
use Rattle.rd_board.specs.Notes.{has_id}
use Rattle.rd_board.specs.Latest.{CountsIds, is_in_bucket}

abbrev one_if : Bool → ℕ
one_if t = cond t 1 0

abbrev bucket_of : BoardNote → ℕ
bucket_of n = n.note.id % 16384

within : (n : BoardNote) → bucket_of n < 16384
within n = mod_below n.note.id 16384 (omega arith)

count-cons : (b : ℕ) (o : BoardNote) (rest : List BoardNote) → count_by (is_in_bucket b) (o ∷ rest) ≡ one_if (is_in_bucket b o) + count_by (is_in_bucket b) rest
count-cons b o rest = sum_by-cons (λ n. one_if (is_in_bucket b n)) o rest

count-push : (b : ℕ) (notes : List BoardNote) (n : BoardNote) → count_by (is_in_bucket b) (notes ++ n ∷ []) ≡ count_by (is_in_bucket b) notes + one_if (is_in_bucket b n)
count-push b notes n = sum_by_push (λ m. one_if (is_in_bucket b m)) notes n

in_own : (n : BoardNote) → is_in_bucket (bucket_of n) n ≡ true
in_own n = elim (eqb_tells (bucket_of n) (bucket_of n)) [ inl here ↦ here.0 | inr other ↦ absurd (other.1 refl) ]

own : (n : BoardNote) → one_if (is_in_bucket (bucket_of n) n) ≡ 1
own n = ap one_if (in_own n)

-- ---- a note goes

pub some_counted : (o : BoardNote) (rest : List BoardNote) (counts : List ℕ) → CountsIds (o ∷ rest) counts → 0 < get_or counts (bucket_of o) 0
some_counted o rest counts h =
    let here = h.counted (bucket_of o) (within o) in
    let all = count-cons (bucket_of o) o rest in
    let one = own o in
    omega arith

pub counted_down : (o : BoardNote) (rest : List BoardNote) (counts : List ℕ) → CountsIds (o ∷ rest) counts → CountsIds rest (set counts (bucket_of o) (get_or counts (bucket_of o) 0 - 1))
counted_down o rest counts h = record {
  buckets = length-set counts (bucket_of o) (get_or counts (bucket_of o) 0 - 1) ∙ h.buckets;
  counted = λ b lt. elim (eqb_tells (bucket_of o) b) [ inl here ↦ at b here.1 | inr other ↦ beside b lt other.0 (λ e. other.1 (sym e)) ];
}
  where
    at : (b : ℕ) → bucket_of o ≡ b → get_or (set counts (bucket_of o) (get_or counts (bucket_of o) 0 - 1)) b 0 ≡ count_by (is_in_bucket b) rest
    at b e =
        let lt : bucket_of o < length counts = subst (λ n. bucket_of o < n) (sym h.buckets) (within o) in
        let here = h.counted (bucket_of o) (within o) in
        let all = count-cons (bucket_of o) o rest in
        let one = own o in
        let value : get_or counts (bucket_of o) 0 - 1 ≡ count_by (is_in_bucket (bucket_of o)) rest = omega arith in
        subst (λ k. get_or (set counts (bucket_of o) (get_or counts (bucket_of o) 0 - 1)) k 0 ≡ count_by (is_in_bucket k) rest) e (get_or-set_same counts (bucket_of o) (get_or counts (bucket_of o) 0 - 1) 0 lt ∙ value)

    beside : (b : ℕ) → b < 16384 → is_in_bucket b o ≡ false → b ≢ bucket_of o → get_or (set counts (bucket_of o) (get_or counts (bucket_of o) 0 - 1)) b 0 ≡ count_by (is_in_bucket b) rest
    beside b lt out ne =
        let all = count-cons b o rest in
        let none : one_if (is_in_bucket b o) ≡ 0 = ap one_if out in
        let here = h.counted b lt in
        get_or-set_other counts (bucket_of o) b (get_or counts (bucket_of o) 0 - 1) 0 ne ∙ (omega arith)

-- ---- a note comes

pub counted_up : (notes : List BoardNote) (n : BoardNote) (counts : List ℕ) → CountsIds notes counts → CountsIds (notes ++ n ∷ []) (set counts (bucket_of n) (get_or counts (bucket_of n) 0 + 1))
counted_up notes n counts h = record {
  buckets = length-set counts (bucket_of n) (get_or counts (bucket_of n) 0 + 1) ∙ h.buckets;
  counted = λ b lt. elim (eqb_tells (bucket_of n) b) [ inl here ↦ at b here.1 | inr other ↦ beside b lt other.0 (λ e. other.1 (sym e)) ];
}
  where
    at : (b : ℕ) → bucket_of n ≡ b → get_or (set counts (bucket_of n) (get_or counts (bucket_of n) 0 + 1)) b 0 ≡ count_by (is_in_bucket b) (notes ++ n ∷ [])
    at b e =
        let lt : bucket_of n < length counts = subst (λ m. bucket_of n < m) (sym h.buckets) (within n) in
        let here = h.counted (bucket_of n) (within n) in
        let all = count-push (bucket_of n) notes n in
        let one = own n in
        let value : get_or counts (bucket_of n) 0 + 1 ≡ count_by (is_in_bucket (bucket_of n)) (notes ++ n ∷ []) = omega arith in
        subst (λ k. get_or (set counts (bucket_of n) (get_or counts (bucket_of n) 0 + 1)) k 0 ≡ count_by (is_in_bucket k) (notes ++ n ∷ [])) e (get_or-set_same counts (bucket_of n) (get_or counts (bucket_of n) 0 + 1) 0 lt ∙ value)

    beside : (b : ℕ) → b < 16384 → is_in_bucket b n ≡ false → b ≢ bucket_of n → get_or (set counts (bucket_of n) (get_or counts (bucket_of n) 0 + 1)) b 0 ≡ count_by (is_in_bucket b) (notes ++ n ∷ [])
    beside b lt out ne =
        let all = count-push b notes n in
        let none : one_if (is_in_bucket b n) ≡ 0 = ap one_if out in
        let here = h.counted b lt in
        get_or-set_other counts (bucket_of n) b (get_or counts (bucket_of n) 0 + 1) 0 ne ∙ (omega arith)

-- no bucket has more than all notes
pub counted_most : (notes : List BoardNote) (counts : List ℕ) (id : ℕ) → CountsIds notes counts → get_or counts (id % 16384) 0 ≤ length notes
counted_most notes counts id h =
    let here = h.counted (id % 16384) (mod_below id 16384 (omega arith)) in
    let most = count_by-le-length (is_in_bucket (id % 16384)) notes in
    omega arith

-- ---- a note is marked

pub counted_set : (notes : List BoardNote) (counts : List ℕ) (i : ℕ) (n : BoardNote) → CountsIds notes counts → slice_get notes i ≡ Some n → (t : Bool) → CountsIds (set notes i (record n { is_kept = t })) counts
counted_set notes counts i n h at t = record {
  buckets = h.buckets;
  counted = λ b lt. h.counted b lt ∙ sym (same b notes i at);
}
  where
    same : (b : ℕ) (ns : List BoardNote) (i : ℕ) → slice_get ns i ≡ Some n → count_by (is_in_bucket b) (set ns i (record n { is_kept = t })) ≡ count_by (is_in_bucket b) ns
    same b [] i e = absurd (cc e)
    same b (m ∷ ns) zero e =
        let is : m ≡ n = cc e in
        count-cons b (record n { is_kept = t }) ns ∙ sym (ap (λ k. one_if (is_in_bucket b k) + count_by (is_in_bucket b) ns) is) ∙ sym (count-cons b m ns)
    same b (m ∷ ns) (suc i) e =
        count-cons b m (set ns i (record n { is_kept = t })) ∙ ap (λ k. one_if (is_in_bucket b m) + k) (same b ns i e) ∙ sym (count-cons b m ns)

-- ---- an empty bucket

empty_bucket : (notes : List BoardNote) (id : ℕ) → count_by (is_in_bucket (id % 16384)) notes ≡ 0 → list_any (has_id id) notes ≡ false
empty_bucket [] id none = refl
empty_bucket (n ∷ notes) id none =
    let all = count-cons (id % 16384) n notes in
    elim (eqb_tells n.note.id id) [
      | inl here ↦
          let in_it : is_in_bucket (id % 16384) n ≡ true = ap (λ k. is_in_bucket (k % 16384) n) (sym here.1) ∙ in_own n in
          let one : one_if (is_in_bucket (id % 16384) n) ≡ 1 = ap one_if in_it in
          absurd (omega arith)
      | inr other ↦
          let rest : count_by (is_in_bucket (id % 16384)) notes ≡ 0 = omega arith in
          ap (λ t. t || list_any (has_id id) notes) other.0 ∙ empty_bucket notes id rest
    ]

pub not_held : (notes : List BoardNote) (counts : List ℕ) (id : ℕ) → CountsIds notes counts → get_or counts (id % 16384) 0 ≡ 0 → list_any (has_id id) notes ≡ false
not_held notes counts id h none = empty_bucket notes id (sym (h.counted (id % 16384) (mod_below id 16384 (omega arith))) ∙ none)

-- ---- reads, and the beginning

pub count_at : (counts : List ℕ) (id bucket count : ℕ) → length counts ≡ 16384 → bucket ≡ id % 16384 → count ≡ get_or counts bucket count → count ≡ get_or counts (id % 16384) 0
count_at counts id bucket count long is read =
    let below = mod_below id 16384 (omega arith) in
    read ∙ ap (λ b. get_or counts b count) is ∙ get_or_default counts (id % 16384) count 0 (omega arith)

pub none_counted : (notes : List BoardNote) (counts : List ℕ) → notes ≡ [] → counts ≡ replicate 16384 0 → CountsIds notes counts
none_counted notes counts empty zeros = record {
  buckets = ap length zeros ∙ length-replicate {A = ℕ} 16384 0;
  counted = λ b lt. ap (λ cs. get_or cs b 0) zeros ∙ get_or-replicate 16384 b 0 0 lt ∙ sym (ap (count_by (is_in_bucket b)) empty);
}
