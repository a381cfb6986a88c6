-- Rows learnt one by one are the newest first, one per shown word, the first 256.
use Rattle.std.proofs.Common.{◌≡◌, ℕ, zero, suc, Bool, true, false, cond, List, [], ◌∷◌, take, refl, sym, ap, ◌∙◌, true≢false}
use Rattle.std.specs.Prelude.{◌||◌, not, filter, fold}
use Rattle.std.specs.List.{list_any}
use Rattle.std.proofs.lemmas.Slice.Eq.{bytes_eq-Decides}
use Rattle.rd_base.specs.History.{Row}
use Rattle.rd_base.specs.OwnRows.{learn_row, shown_of}
use Rattle.rd_base.specs.Swap.{shows}
use Rattle.rd_rules.specs.Given.{learnt}
use Rattle.rd_rules.specs.Laws.{newest_rows}

abbrev Unlike : List ℕ → Row → Bool
Unlike word row = not (shows word row)

-- no two show the same word
abbrev Single : List Row → Type 0
Single [] = Unit {0}
Single (row ∷ rows) = (list_any (shows (shown_of row)) rows ≡ false) × Single rows

first_false : (a b : Bool) → (a || b) ≡ false → (a ≡ false) × (b ≡ false)
first_false true b e = absurd (true≢false e)
first_false false b e = (refl, e)

all_kept : (word : List ℕ) (rows : List Row) → list_any (shows word) rows ≡ false → filter (Unlike word) rows ≡ rows
all_kept word [] e = refl
all_kept word (row ∷ rows) e =
    let both = first_false (shows word row) (list_any (shows word) rows) e in
    ap (λ b. cond (not b) (row ∷ filter (Unlike word) rows) (filter (Unlike word) rows)) both.0 ∙ ap (λ rs. row ∷ rs) (all_kept word rows both.1)

none_of_front : (test : Row → Bool) (n : ℕ) (rows : List Row) → list_any test rows ≡ false → list_any test (take n rows) ≡ false
none_of_front test zero rows e = refl
none_of_front test (suc n) [] e = refl
none_of_front test (suc n) (row ∷ rows) e =
    let both = first_false (test row) (list_any test rows) e in
    ap (λ b. b || list_any test (take n rows)) both.0 ∙ none_of_front test n rows both.1

none_of_kept : (test keep : Row → Bool) (rows : List Row) → list_any test rows ≡ false → list_any test (filter keep rows) ≡ false
none_of_kept test keep [] e = refl
none_of_kept test keep (row ∷ rows) e =
    let both = first_false (test row) (list_any test rows) e in
    go (keep row) both.0 (none_of_kept test keep rows both.1)
  where
    go : (b : Bool) → test row ≡ false → list_any test (filter keep rows) ≡ false → list_any test (cond b (row ∷ filter keep rows) (filter keep rows)) ≡ false
    go true first more = ap (λ b. b || list_any test (filter keep rows)) first ∙ more
    go false first more = more

single_kept : (keep : Row → Bool) (rows : List Row) → Single rows → Single (filter keep rows)
single_kept keep [] u = u
single_kept keep (row ∷ rows) u = go (single_kept keep rows u.1) (keep row)
  where
    go : Single (filter keep rows) → (b : Bool) → Single (cond b (row ∷ filter keep rows) (filter keep rows))
    go more true = (none_of_kept (shows (shown_of row)) keep rows u.0, more)
    go more false = more

-- no row shows a word that it was filtered by
none_left : (word : List ℕ) (rows : List Row) → list_any (shows word) (filter (Unlike word) rows) ≡ false
none_left word [] = refl
none_left word (row ∷ rows) = go (none_left word rows) (shows word row) refl
  where
    go : list_any (shows word) (filter (Unlike word) rows) ≡ false → (b : Bool) → shows word row ≡ b → list_any (shows word) (cond (not b) (row ∷ filter (Unlike word) rows) (filter (Unlike word) rows)) ≡ false
    go more true e = more
    go more false e = ap (λ b. b || list_any (shows word) (filter (Unlike word) rows)) e ∙ more

shown_word : (word : List ℕ) (row : Row) → shows word row ≡ true → shown_of row ≡ word
shown_word word [] e = absurd (true≢false (sym e))
shown_word word (shown ∷ texts) e = (bytes_eq-Decides shown word).0 e

again : (m : ℕ) (rows : List Row) → take m (take m rows) ≡ take m rows
again zero rows = refl
again (suc m) [] = refl
again (suc m) (row ∷ rows) = ap (λ rs. row ∷ rs) (again m rows)

-- of rows with one per word, one more than wanted is enough to leave a word out of
enough : (word : List ℕ) (n : ℕ) (rows : List Row) → Single rows → take n (filter (Unlike word) (take (suc n) rows)) ≡ take n (filter (Unlike word) rows)
enough word zero rows u = refl
enough word (suc n) [] u = refl
enough word (suc n) (row ∷ rows) u = go (enough word n rows u.1) (shows word row) refl
  where
    go : take n (filter (Unlike word) (take (suc n) rows)) ≡ take n (filter (Unlike word) rows) → (b : Bool) → shows word row ≡ b
        → take (suc n) (cond (not b) (row ∷ filter (Unlike word) (take (suc n) rows)) (filter (Unlike word) (take (suc n) rows)))
        ≡ take (suc n) (cond (not b) (row ∷ filter (Unlike word) rows) (filter (Unlike word) rows))
    go more true e =
        let none : list_any (shows word) rows ≡ false = ap (λ w. list_any (shows w) rows) (sym (shown_word word row e)) ∙ u.0 in
        ap (take (suc n)) (all_kept word (take (suc n) rows) (none_of_front (shows word) (suc n) rows none))
        ∙ again (suc n) rows
        ∙ ap (take (suc n)) (sym (all_kept word rows none))
    go more false e = ap (λ rs. row ∷ rs) more

-- a row learnt, however many there are
abbrev learn_all : List Row → Row → List Row
learn_all rows row = row ∷ filter (Unlike (shown_of row)) rows

learn_all_single : (rows : List Row) (row : Row) → Single rows → Single (learn_all rows row)
learn_all_single rows row u = (none_left (shown_of row) rows, single_kept (Unlike (shown_of row)) rows u)

in_turn : (more rows : List Row) → Single rows → fold (learn_row 256) (take 256 rows) more ≡ take 256 (fold learn_all rows more)
in_turn [] rows u = refl
in_turn (row ∷ more) rows u =
    ap (λ rs. fold (learn_row 256) (row ∷ rs) more) (enough (shown_of row) 255 rows u)
    ∙ in_turn more (learn_all rows row) (learn_all_single rows row u)

onto : (more : List Row) (older : List Row) → fold learn_all (newest_rows older) more ≡ newest_rows (fold (λ rs r. r ∷ rs) older more)
onto [] older = refl
onto (row ∷ more) older = onto more (row ∷ older)

pub own_rows_are_newest : (rows : List Row) → learnt [] rows ≡ take 256 (newest_rows (fold (λ rs r. r ∷ rs) [] rows))
own_rows_are_newest rows = in_turn rows [] (record {}) ∙ ap (take 256) (onto rows [])
