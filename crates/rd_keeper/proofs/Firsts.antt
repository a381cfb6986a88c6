-- The notes after a list of puts: by rising id, the first put note of each id.
use Rattle.std.proofs.Common.{inl, inr, ◌≡◌, ℕ, ◌<◌, ◌≤◌, Bool, true, false, cond, List, [], ◌∷◌, ◌++◌, Some, None, Option, refl, sym, ap, subst, ◌∙◌, arith}
use Rattle.std.specs.Prelude.{Result, is_ok, option_map, find, filter, fold, ◌||◌}
use Rattle.std.specs.Option.{option_or}
use Rattle.std.proofs.lemmas.Bool.{cases_lt, lt-ltb, le-ltb}
use Rattle.std.proofs.lemmas.Bool.Decides.{eqb_tells}
use Rattle.std.proofs.lemmas.List.Folds.{find-append}
use Rattle.std.proofs.lemmas.List.Sums.{fold-append}
use Rattle.rd_base.specs.declared.session_note.SessionNote.{SessionNote}
use Rattle.rd_keeper.specs.declared.keeper.Put.{Put}
use Rattle.rd_keeper.specs.declared.keeper.KeepFail.{KeepFail}
use Rattle.rd_keeper.specs.Keeping.{KeeperTold, Puts}
use Rattle.rd_keeper.specs.Laws.{AreFirsts, puts_with}
use Rattle.rd_keeper.specs.Notes.{AreRising, has_id, is_above, is_below, is_kept, notes_after, with_note}
use Rattle.rd_keeper.proofs.Rising.{find_none, none_among, none_above, rising_put}

-- ---- what is found behind a filter

-- a filter that passes all that a test finds loses none of it
find-filter : (test p : SessionNote → Bool) → ((n : SessionNote) → test n ≡ true → p n ≡ true) → (notes : List SessionNote) → find test (filter p notes) ≡ find test notes
find-filter test p passes [] = refl
find-filter test p passes (n ∷ notes) = go (p n) refl (find-filter test p passes notes)
  where
    fails : (t : Bool) → (t ≡ true → p n ≡ true) → p n ≡ false → t ≡ false
    fails true f e = absurd (cc (sym (f refl) ∙ e))
    fails false f e = refl

    go : (k : Bool) → p n ≡ k → find test (filter p notes) ≡ find test notes → find test (cond k (n ∷ filter p notes) (filter p notes)) ≡ cond (test n) (Some n) (find test notes)
    go true e ih = ap (λ o. cond (test n) (Some n) o) ih
    go false e ih = ih ∙ sym (ap (λ t. cond t (Some n) (find test notes)) (fails (test n) (passes n) e))

-- and one that passes nothing of it keeps none
find-filter_none : (test p : SessionNote → Bool) → ((n : SessionNote) → test n ≡ true → p n ≡ false) → (notes : List SessionNote) → find test (filter p notes) ≡ None
find-filter_none test p stops [] = refl
find-filter_none test p stops (n ∷ notes) = go (p n) refl (find-filter_none test p stops notes)
  where
    fails : (t : Bool) → (t ≡ true → p n ≡ false) → p n ≡ true → t ≡ false
    fails true f e = absurd (cc (sym (f refl) ∙ e))
    fails false f e = refl

    go : (k : Bool) → p n ≡ k → find test (filter p notes) ≡ None → find test (cond k (n ∷ filter p notes) (filter p notes)) ≡ None
    go true e ih = ap (λ t. cond t (Some n) (find test (filter p notes))) (fails (test n) (stops n) e) ∙ ih
    go false e ih = ih

-- ---- a note more

or_none : {X : Type 0} (o : Option X) → option_or o None ≡ o
or_none None = refl
or_none (Some x) = refl

or-assoc : {X : Type 0} (a b c : Option X) → option_or (option_or a b) c ≡ option_or a (option_or b c)
or-assoc None b c = refl
or-assoc (Some x) b c = refl

same_id : (id : ℕ) (n : SessionNote) → has_id id n ≡ true → n.id ≡ id
same_id id n is = elim (eqb_tells n.id id) [ inl here ↦ here.1 | inr other ↦ absurd (cc (sym is ∙ other.0)) ]

-- where an id is kept, nothing behind is looked at
or_found : (id : ℕ) (notes : List SessionNote) (o : Option SessionNote) → is_kept id notes ≡ true → option_or (find (has_id id) notes) o ≡ find (has_id id) notes
or_found id [] o kept = absurd (cc kept)
or_found id (n ∷ notes) o kept = go (has_id id n) kept (λ e. or_found id notes o e)
  where
    go : (t : Bool) → (t || is_kept id notes) ≡ true → (is_kept id notes ≡ true → option_or (find (has_id id) notes) o ≡ find (has_id id) notes) → option_or (cond t (Some n) (find (has_id id) notes)) o ≡ cond t (Some n) (find (has_id id) notes)
    go true e ih = refl
    go false e ih = ih e

-- a note that is put is found where none of its id was
find_put : (id : ℕ) (notes : List SessionNote) (note : SessionNote) → find (has_id id) (with_note notes note) ≡ option_or (find (has_id id) notes) (find (has_id id) (note ∷ []))
find_put id notes note = go (is_kept note.id notes) refl
  where
    found : List SessionNote → Option SessionNote
    found ns = find (has_id id) ns

    lesser : List SessionNote
    lesser = filter (is_below note.id) notes

    greater : List SessionNote
    greater = filter (is_above note.id) notes

    joined : found (lesser ++ note ∷ greater) ≡ option_or (found lesser) (cond (has_id id note) (Some note) (found greater))
    joined = find-append (has_id id) lesser (note ∷ greater)

    none_lesser : note.id ≤ id → found lesser ≡ None
    none_lesser le = find-filter_none (has_id id) (is_below note.id) (λ n is. le-ltb n.id note.id (omega (arith, le, same_id id n is))) notes

    none_greater : id < note.id → found greater ≡ None
    none_greater lt = find-filter_none (has_id id) (is_above note.id) (λ n is. le-ltb note.id n.id (omega (arith, lt, same_id id n is))) notes

    all_lesser : id < note.id → found lesser ≡ found notes
    all_lesser lt = find-filter (has_id id) (is_below note.id) (λ n is. lt-ltb n.id note.id (omega (arith, lt, same_id id n is))) notes

    all_greater : note.id < id → found greater ≡ found notes
    all_greater lt = find-filter (has_id id) (is_above note.id) (λ n is. lt-ltb note.id n.id (omega (arith, lt, same_id id n is))) notes

    go : (k : Bool) → is_kept note.id notes ≡ k → found (cond k notes (lesser ++ note ∷ greater)) ≡ option_or (found notes) (cond (has_id id note) (Some note) None)
    go true kept = elim (eqb_tells note.id id) [
      | inl here ↦ sym (or_found id notes (cond (has_id id note) (Some note) None) (subst (λ i. is_kept i notes ≡ true) here.1 kept))
      | inr other ↦ sym (ap (λ t. option_or (found notes) (cond t (Some note) None)) other.0 ∙ or_none (found notes))
    ]
    go false none = elim (eqb_tells note.id id) [
      | inl here ↦
          joined
          ∙ ap (λ o. option_or o (cond (has_id id note) (Some note) (found greater))) (none_lesser (omega (arith, here.1)))
          ∙ ap (λ t. cond t (Some note) (found greater)) here.0
          ∙ sym (ap (λ o. option_or o (cond (has_id id note) (Some note) None)) (find_none id notes (subst (λ i. is_kept i notes ≡ false) here.1 none))
          ∙ ap (λ t. cond t (Some note) None) here.0)
      | inr other ↦
          joined
          ∙ ap (λ t. option_or (found lesser) (cond t (Some note) (found greater))) other.0
          ∙ elim (cases_lt id note.id) [
            | inl lt ↦ ap (λ o. option_or o (found greater)) (all_lesser lt) ∙ ap (option_or (found notes)) (none_greater lt)
            | inr ge ↦
                ap (λ o. option_or o (found greater)) (none_lesser ge)
                ∙ all_greater (omega (arith, ge, other.1)) ∙ sym (or_none (found notes))
          ]
          ∙ sym (ap (λ t. option_or (found notes) (cond t (Some note) None)) other.0)
    ]

-- ---- all puts

find_puts : (id : ℕ) (notes puts : List SessionNote) → find (has_id id) (fold with_note notes puts) ≡ option_or (find (has_id id) notes) (find (has_id id) puts)
find_puts id notes [] = sym (or_none (find (has_id id) notes))
find_puts id notes (note ∷ puts) =
    find_puts id (with_note notes note) puts
    ∙ ap (λ o. option_or o (find (has_id id) puts)) (find_put id notes note)
    ∙ or-assoc (find (has_id id) notes) (find (has_id id) (note ∷ [])) (find (has_id id) puts)
    ∙ ap (option_or (find (has_id id) notes)) (sym (find-append (has_id id) (note ∷ []) puts))

rising_puts : (notes puts : List SessionNote) → AreRising notes → AreRising (fold with_note notes puts)
rising_puts notes [] rising = rising
rising_puts notes (note ∷ puts) rising = rising_puts (with_note notes note) puts (rising_put notes note rising)

pub keeps_firsts : (puts : List SessionNote) → AreFirsts puts (notes_after puts)
keeps_firsts puts = record { rising = rising_puts [] puts tt; first = λ id. find_puts id [] puts }

-- ---- no other notes

-- an id that is below all notes isn't found
find_above : (id : ℕ) (n : SessionNote) (notes : List SessionNote) → id < n.id → AreRising (n ∷ notes) → find (has_id id) (n ∷ notes) ≡ None
find_above id n notes lt rising = elim (eqb_tells n.id id) [
  | inl here ↦ absurd (omega (arith, lt, here.1))
  | inr other ↦
      ap (λ t. cond t (Some n) (find (has_id id) notes)) other.0 ∙ find_none id notes (none_above id n notes lt rising.0)
]

-- the first note has its id
find_first : (n : SessionNote) (notes : List SessionNote) → find (has_id n.id) (n ∷ notes) ≡ Some n
find_first n notes = elim (eqb_tells n.id n.id) [
  | inl here ↦ ap (λ t. cond t (Some n) (find (has_id n.id) notes)) here.0
  | inr other ↦ absurd (other.1 refl)
]

-- where a first note is left out, the others are found as before, and its id no more
find_behind : (id : ℕ) (n : SessionNote) (ns : List SessionNote) → AreRising (n ∷ ns) → find (has_id id) ns ≡ cond (has_id id n) None (find (has_id id) (n ∷ ns))
find_behind id n ns rising = elim (eqb_tells n.id id) [
  | inl here ↦
      find_none id ns (subst (λ i. is_kept i ns ≡ false) here.1 (none_among n.id ns rising.0))
      ∙ sym (ap (λ t. cond t None (find (has_id id) (n ∷ ns))) here.0)
  | inr other ↦ sym (ap (λ t. cond t None (cond t (Some n) (find (has_id id) ns))) other.0)
]

same_first : (x y : SessionNote) (xs ys : List SessionNote) → x.id ≡ y.id → find (has_id x.id) (x ∷ xs) ≡ find (has_id x.id) (y ∷ ys) → x ≡ y
same_first x y xs ys e same =
    let first = subst (λ i. find (has_id i) (y ∷ ys) ≡ Some y) (sym e) (find_first y ys) in
    some_same (sym (find_first x xs) ∙ same ∙ first)
  where
    some_same : Some x ≡ Some y → x ≡ y
    some_same same = cc same

-- rising notes in which the same are found are the same
same_notes : (xs ys : List SessionNote) → AreRising xs → AreRising ys → ((id : ℕ) → find (has_id id) xs ≡ find (has_id id) ys) → xs ≡ ys
same_notes [] [] rx ry same = refl
same_notes [] (y ∷ ys) rx ry same = absurd (cc (same y.id ∙ find_first y ys))
same_notes (x ∷ xs) [] rx ry same = absurd (cc (sym (find_first x xs) ∙ same x.id))
same_notes (x ∷ xs) (y ∷ ys) rx ry same = elim (cases_lt x.id y.id) [
  | inl lt ↦ absurd (cc (sym (find_first x xs) ∙ same x.id ∙ find_above x.id y ys lt ry))
  | inr ge ↦ elim (cases_lt y.id x.id) [
    | inl lt ↦ absurd (cc (sym (find_first y ys) ∙ sym (same y.id) ∙ find_above y.id x xs lt rx))
    | inr le ↦
        let first : x ≡ y = same_first x y xs ys (omega (arith, ge, le)) (same x.id) in
        let rest = same_notes xs ys rx.1 ry.1 (λ id. find_behind id x xs rx ∙ ap (λ n. cond (has_id id n) None (find (has_id id) (x ∷ xs))) first ∙ ap (cond (has_id id y) None) (same id) ∙ sym (find_behind id y ys ry)) in
        ap (λ n. n ∷ xs) first ∙ ap (λ ns. y ∷ ns) rest
  ]
]

pub keeps_nothing_else : (puts notes : List SessionNote) → AreFirsts puts notes → notes ≡ notes_after puts
keeps_nothing_else puts notes are =
    let after = keeps_firsts puts in
    same_notes notes (notes_after puts) are.rising after.rising (λ id. are.first id ∙ sym (after.first id))

-- ---- a keeper's puts

pub follows_puts : (puts : List SessionNote) (note : SessionNote) (result : Result Put KeepFail) (before after : KeeperTold) → before.notes ≡ Some (notes_after puts) → Puts note result before after → after.notes ≡ Some (notes_after (puts_with puts note result))
follows_puts puts note result before after told h =
    h.notes ∙ ap (option_map (λ ns. cond (is_ok result) (with_note ns note) ns)) told ∙ go (is_ok result)
  where
    go : (t : Bool) → Some (cond t (with_note (notes_after puts) note) (notes_after puts)) ≡ Some (notes_after (cond t (puts ++ note ∷ []) puts))
    go true = ap Some (sym (fold-append with_note [] puts (note ∷ [])))
    go false = refl
