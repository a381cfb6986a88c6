-- Lists of notes: which are pending, which are kept, and the oldest pending one that is marked kept.
use Rattle.std.proofs.Common.{◌≡◌, ℕ, zero, suc, ◌-◌, ◌^◌, ◌≤◌, Bool, true, false, cond, not, List, [], ◌∷◌, ◌++◌, drop, Some, None, refl, sym, ap, ◌∙◌, subst, arith}
use Rattle.std.specs.Prelude.{◌&&◌, map, filter, find, count_by}
use Rattle.std.proofs.lemmas.List.{map-append}
use Rattle.std.proofs.lemmas.List.Sums.{sum_by-cons}
use Rattle.rd_base.specs.declared.session_note.SessionNote.{SessionNote}
use Rattle.rd_board.specs.declared.latest.BoardNote.{BoardNote}
use Rattle.rd_board.specs.Notes.{fresh, has_id, is_unkept, is_unkept_of, mark_first}
use Rattle.rd_desk.specs.Desk.{pending, kept_notes, AreInOrder, HaveMoments}

pub filter-append : {X : Type 0} (p : X → Bool) (xs ys : List X) → filter p (xs ++ ys) ≡ filter p xs ++ filter p ys
filter-append p [] ys = refl
filter-append p (x ∷ xs) ys = go (p x) (filter-append p xs ys)
  where
    go : (t : Bool) → filter p (xs ++ ys) ≡ filter p xs ++ filter p ys → cond t (x ∷ filter p (xs ++ ys)) (filter p (xs ++ ys)) ≡ cond t (x ∷ filter p xs) (filter p xs) ++ filter p ys
    go true ih = ap (λ zs. x ∷ zs) ih
    go false ih = ih

pub kept_notes-append : (xs ys : List BoardNote) → kept_notes (xs ++ ys) ≡ kept_notes xs ++ kept_notes ys
kept_notes-append xs ys = ap (map (λ n. n.note)) (filter-append (λ n. n.is_kept) xs ys) ∙ map-append (λ n. n.note) (filter (λ n. n.is_kept) xs) (filter (λ n. n.is_kept) ys)

-- ---- the oldest that is pending

abbrev marked : BoardNote → BoardNote
marked n = record n { is_kept = true }

has_own : (n : BoardNote) → has_id n.note.id n ≡ true
has_own n = grind arith

own_unkept : (n p : BoardNote) → n ≡ p → n.is_kept ≡ false → is_unkept_of p.note.id n ≡ true
own_unkept n p same is =
    let id : has_id p.note.id n ≡ true = subst (λ q. has_id q.note.id n ≡ true) same (has_own n) in
    grind arith

kept_not : (id : ℕ) (n : BoardNote) → n.is_kept ≡ true → is_unkept_of id n ≡ false
kept_not id n is = go (has_id id n) n.is_kept is
  where
    go : (t k : Bool) → k ≡ true → (t && not k) ≡ false
    go true k e = ap not e
    go false k e = refl

-- the list with its oldest pending note marked kept
mark_head : (n p : BoardNote) (ns : List BoardNote) → n ≡ p → n.is_kept ≡ false → mark_first p.note.id (n ∷ ns) ≡ marked n ∷ ns
mark_head n p ns same is = ap (λ t. cond t (marked n ∷ ns) (n ∷ mark_first p.note.id ns)) (own_unkept n p same is)

mark_later : (n p : BoardNote) (ns : List BoardNote) → n.is_kept ≡ true → mark_first p.note.id (n ∷ ns) ≡ n ∷ mark_first p.note.id ns
mark_later n p ns is = ap (λ t. cond t (marked n ∷ ns) (n ∷ mark_first p.note.id ns)) (kept_not p.note.id n is)

-- what holds of each list that begins with its oldest pending note, and of each with a kept one before it, holds of all
by_oldest : (P : List BoardNote → BoardNote → Type 0)
    → ((n p : BoardNote) (ns : List BoardNote) → n ≡ p → n.is_kept ≡ false → P (n ∷ ns) p)
    → ((n p : BoardNote) (ns : List BoardNote) → n.is_kept ≡ true → find is_unkept ns ≡ Some p → P ns p → P (n ∷ ns) p)
    → (ns : List BoardNote) (p : BoardNote) → find is_unkept ns ≡ Some p → P ns p
by_oldest P first later [] p found = absurd (cc found)
by_oldest P first later (n ∷ ns) p found = go n.is_kept refl found (by_oldest P first later ns p)
  where
    go : (k : Bool) → n.is_kept ≡ k → cond (not k) (Some n) (find is_unkept ns) ≡ Some p → (find is_unkept ns ≡ Some p → P ns p) → P (n ∷ ns) p
    go true is e ih = later n p ns is e (ih e)
    go false is e ih = first n p ns (cc e) is

filter_no : {X : Type 0} (p : X → Bool) (x : X) (xs : List X) → p x ≡ false → filter p (x ∷ xs) ≡ filter p xs
filter_no p x xs is = ap (λ t. cond t (x ∷ filter p xs) (filter p xs)) is

filter_yes : {X : Type 0} (p : X → Bool) (x : X) (xs : List X) → p x ≡ true → filter p (x ∷ xs) ≡ x ∷ filter p xs
filter_yes p x xs is = ap (λ t. cond t (x ∷ filter p xs) (filter p xs)) is

-- it is the first of those that are pending, and then no longer among them
pub pending-marked : (ns : List BoardNote) (p : BoardNote) → find is_unkept ns ≡ Some p → pending ns ≡ p.note ∷ pending (mark_first p.note.id ns)
pending-marked = by_oldest (λ ns p. pending ns ≡ p.note ∷ pending (mark_first p.note.id ns)) first later
  where
    first : (n p : BoardNote) (ns : List BoardNote) → n ≡ p → n.is_kept ≡ false → pending (n ∷ ns) ≡ p.note ∷ pending (mark_first p.note.id (n ∷ ns))
    first n p ns same is =
        ap (map (λ n. n.note)) (filter_yes is_unkept n ns (ap not is))
        ∙ ap (λ (q : BoardNote). q.note ∷ pending ns) same
        ∙ ap (λ l. p.note ∷ pending l) (sym (mark_head n p ns same is))

    later : (n p : BoardNote) (ns : List BoardNote) → n.is_kept ≡ true → find is_unkept ns ≡ Some p → pending ns ≡ p.note ∷ pending (mark_first p.note.id ns) → pending (n ∷ ns) ≡ p.note ∷ pending (mark_first p.note.id (n ∷ ns))
    later n p ns is found ih =
        ap (map (λ n. n.note)) (filter_no is_unkept n ns (ap not is))
        ∙ ih
        ∙ ap (λ l. p.note ∷ map (λ n. n.note) l) (sym (filter_no is_unkept n (mark_first p.note.id ns) (ap not is)))
        ∙ ap (λ l. p.note ∷ pending l) (sym (mark_later n p ns is))

-- it is the last of those that are kept, then
pub kept-marked : (ns : List BoardNote) (p : BoardNote) → find is_unkept ns ≡ Some p → AreInOrder ns → kept_notes (mark_first p.note.id ns) ≡ kept_notes ns ++ p.note ∷ []
kept-marked = by_oldest (λ ns p. AreInOrder ns → kept_notes (mark_first p.note.id ns) ≡ kept_notes ns ++ p.note ∷ []) first later
  where
    first : (n p : BoardNote) (ns : List BoardNote) → n ≡ p → n.is_kept ≡ false → AreInOrder (n ∷ ns) → kept_notes (mark_first p.note.id (n ∷ ns)) ≡ kept_notes (n ∷ ns) ++ p.note ∷ []
    first n p ns same is order =
        let none = order.0 is in
        ap kept_notes (mark_head n p ns same is)
        ∙ ap (λ l. n.note ∷ map (λ n. n.note) l) none
        ∙ ap (λ (q : BoardNote). q.note ∷ []) same
        ∙ sym (ap (λ l. map (λ n. n.note) l ++ p.note ∷ []) (filter_no (λ n. n.is_kept) n ns is ∙ none))

    later : (n p : BoardNote) (ns : List BoardNote) → n.is_kept ≡ true → find is_unkept ns ≡ Some p → (AreInOrder ns → kept_notes (mark_first p.note.id ns) ≡ kept_notes ns ++ p.note ∷ []) → AreInOrder (n ∷ ns) → kept_notes (mark_first p.note.id (n ∷ ns)) ≡ kept_notes (n ∷ ns) ++ p.note ∷ []
    later n p ns is found ih order =
        ap kept_notes (mark_later n p ns is)
        ∙ ap (map (λ n. n.note)) (filter_yes (λ n. n.is_kept) n (mark_first p.note.id ns) is)
        ∙ ap (λ l. n.note ∷ l) (ih order.1)
        ∙ sym (ap (λ l. map (λ n. n.note) l ++ p.note ∷ []) (filter_yes (λ n. n.is_kept) n ns is))

both_kept : {A : Type 0} → true ≡ false → A
both_kept e = absurd (cc e)

pub order-marked : (ns : List BoardNote) (p : BoardNote) → find is_unkept ns ≡ Some p → AreInOrder ns → AreInOrder (mark_first p.note.id ns)
order-marked = by_oldest (λ ns p. AreInOrder ns → AreInOrder (mark_first p.note.id ns)) first later
  where
    first : (n p : BoardNote) (ns : List BoardNote) → n ≡ p → n.is_kept ≡ false → AreInOrder (n ∷ ns) → AreInOrder (mark_first p.note.id (n ∷ ns))
    first n p ns same is order = subst AreInOrder (sym (mark_head n p ns same is)) ((λ e. both_kept e), order.1)

    later : (n p : BoardNote) (ns : List BoardNote) → n.is_kept ≡ true → find is_unkept ns ≡ Some p → (AreInOrder ns → AreInOrder (mark_first p.note.id ns)) → AreInOrder (n ∷ ns) → AreInOrder (mark_first p.note.id (n ∷ ns))
    later n p ns is found ih order = subst AreInOrder (sym (mark_later n p ns is)) ((λ e. both_kept (sym is ∙ e)), ih order.1)

-- an id that a pending note has is in use
pub pending_used : (ns : List BoardNote) (p : BoardNote) → find is_unkept ns ≡ Some p → 1 ≤ count_by (has_id p.note.id) ns
pending_used = by_oldest (λ ns p. 1 ≤ count_by (has_id p.note.id) ns) first later
  where
    first : (n p : BoardNote) (ns : List BoardNote) → n ≡ p → n.is_kept ≡ false → 1 ≤ count_by (has_id p.note.id) (n ∷ ns)
    first n p ns same is =
        let one = sum_by-cons (λ m. cond (has_id p.note.id m) 1 0) n ns in
        let own : cond {A = ℕ} (has_id p.note.id n) 1 0 ≡ 1 = ap (λ t. cond {A = ℕ} t 1 0) (subst (λ q. has_id q.note.id n ≡ true) same (has_own n)) in
        omega arith

    later : (n p : BoardNote) (ns : List BoardNote) → n.is_kept ≡ true → find is_unkept ns ≡ Some p → 1 ≤ count_by (has_id p.note.id) ns → 1 ≤ count_by (has_id p.note.id) (n ∷ ns)
    later n p ns is found ih =
        let one = sum_by-cons (λ m. cond (has_id p.note.id m) 1 0) n ns in
        omega arith

-- its moments can be kept
pub pending_moments : (ns : List BoardNote) (p : BoardNote) → find is_unkept ns ≡ Some p → HaveMoments ns → (p.note.began ≤ 2 ^ 63 - 1) × (p.note.ended ≤ 2 ^ 63 - 1)
pending_moments = by_oldest (λ ns p. HaveMoments ns → (p.note.began ≤ 2 ^ 63 - 1) × (p.note.ended ≤ 2 ^ 63 - 1)) first later
  where
    first : (n p : BoardNote) (ns : List BoardNote) → n ≡ p → n.is_kept ≡ false → HaveMoments (n ∷ ns) → (p.note.began ≤ 2 ^ 63 - 1) × (p.note.ended ≤ 2 ^ 63 - 1)
    first n p ns same is have = subst (λ q. (q.note.began ≤ 2 ^ 63 - 1) × (q.note.ended ≤ 2 ^ 63 - 1)) same (have.0, have.1)

    later : (n p : BoardNote) (ns : List BoardNote) → n.is_kept ≡ true → find is_unkept ns ≡ Some p → (HaveMoments ns → (p.note.began ≤ 2 ^ 63 - 1) × (p.note.ended ≤ 2 ^ 63 - 1)) → HaveMoments (n ∷ ns) → (p.note.began ≤ 2 ^ 63 - 1) × (p.note.ended ≤ 2 ^ 63 - 1)
    later n p ns is found ih have = ih have.2

-- where none is pending
pub pending_none : (ns : List BoardNote) → find is_unkept ns ≡ None → pending ns ≡ []
pending_none [] none = refl
pending_none (n ∷ ns) none = go n.is_kept none (pending_none ns)
  where
    go : (k : Bool) → cond (not k) (Some n) (find is_unkept ns) ≡ None → (find is_unkept ns ≡ None → pending ns ≡ []) → map (λ n. n.note) (cond (not k) (n ∷ filter is_unkept ns) (filter is_unkept ns)) ≡ []
    go true e ih = ih e
    go false e ih = absurd (cc e)

-- ---- marks

pub moments-mark_first : (id : ℕ) (ns : List BoardNote) → HaveMoments ns → HaveMoments (mark_first id ns)
moments-mark_first id [] have = tt
moments-mark_first id (n ∷ ns) have = go (is_unkept_of id n) (moments-mark_first id ns have.2)
  where
    go : (t : Bool) → HaveMoments (mark_first id ns) → HaveMoments (cond t (marked n ∷ ns) (n ∷ mark_first id ns))
    go true ih = have
    go false ih = (have.0, have.1, ih)

pub notes-mark_first : (id : ℕ) (ns : List BoardNote) → map (λ n. n.note) (mark_first id ns) ≡ map (λ n. n.note) ns
notes-mark_first id [] = refl
notes-mark_first id (n ∷ ns) = go (is_unkept_of id n) (notes-mark_first id ns)
  where
    go : (t : Bool) → map (λ n. n.note) (mark_first id ns) ≡ map (λ n. n.note) ns → map (λ n. n.note) (cond t (marked n ∷ ns) (n ∷ mark_first id ns)) ≡ n.note ∷ map (λ n. n.note) ns
    go true ih = refl
    go false ih = ap (λ l. n.note ∷ l) ih

-- ---- one note more, and the oldest gone

pub order-fresh : (note : SessionNote) (ns : List BoardNote) → AreInOrder ns → AreInOrder (ns ++ fresh note ∷ [])
order-fresh note [] order = ((λ e. refl), tt)
order-fresh note (n ∷ ns) order =
    ((λ e. filter-append (λ m. m.is_kept) ns (fresh note ∷ []) ∙ ap (λ l. l ++ []) (order.0 e)), order-fresh note ns order.1)

pub order-drop : (k : ℕ) (ns : List BoardNote) → AreInOrder ns → AreInOrder (drop k ns)
order-drop zero ns order = subst AreInOrder (sym (drop_zero ns)) order
  where
    drop_zero : (l : List BoardNote) → drop zero l ≡ l
    drop_zero [] = refl
    drop_zero (x ∷ xs) = refl
order-drop (suc k) [] order = tt
order-drop (suc k) (n ∷ ns) order = order-drop k ns order.1

pub moments-append : (ns ms : List BoardNote) → HaveMoments ns → HaveMoments ms → HaveMoments (ns ++ ms)
moments-append [] ms have more = more
moments-append (n ∷ ns) ms have more = (have.0, have.1, moments-append ns ms have.2 more)

pub moments-drop : (k : ℕ) (ns : List BoardNote) → HaveMoments ns → HaveMoments (drop k ns)
moments-drop zero ns have = subst HaveMoments (sym (drop_zero ns)) have
  where
    drop_zero : (l : List BoardNote) → drop zero l ≡ l
    drop_zero [] = refl
    drop_zero (x ∷ xs) = refl
moments-drop (suc k) [] have = tt
moments-drop (suc k) (n ∷ ns) have = moments-drop k ns have.2
