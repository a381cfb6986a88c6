-- Lists of shared rows, and the rows in them.
use Rattle.std.proofs.Common.{◌≡◌, ℕ, zero, suc, ◌-◌, ◌<◌, ◌≤◌, Bool, true, false, cond, not, List, [], ◌∷◌, ◌++◌, length, get_or, map, take, Result, Ok, Err, refl, sym, ap, ◌∙◌, arith}
use Rattle.std.specs.Prelude.{filter, is_ok, is_err, IsOk, OnOk, OnErr}
use Rattle.std.specs.List.{All, AllZip}
use Rattle.std.proofs.lemmas.List.{map-append, take-map}
use Rattle.std.proofs.lemmas.List.Elements.{All-take, All-cons, All-filter}
use Rattle.rd_base.specs.History.{Row}
use Rattle.rd_base.specs.Swap.{IsRowWord, AreRowWords, shows}
use Rattle.rd_base.specs.OwnRows.{learn_row, shown_of}

module _ {X Y : Type 0} (value : X → Y) where
  clones_have : (xs ys : List X) → AllZip (λ x y. value y ≡ value x) xs ys → map value ys ≡ map value xs
  clones_have [] [] all = refl
  clones_have [] (y ∷ ys) all = absurd all
  clones_have (x ∷ xs) [] all = absurd all
  clones_have (x ∷ xs) (y ∷ ys) all = ap (λ v. v ∷ map value ys) all.0 ∙ ap (λ vs. value x ∷ vs) (clones_have xs ys all.1)

  -- a list with clones of others behind it
  pub map-clones : (old more ys new : List X) → new ≡ old ++ ys → AllZip (λ x y. value y ≡ value x) more ys → map value new ≡ map value old ++ map value more
  map-clones old more ys new is all = ap (map value) is ∙ map-append value old ys ∙ ap (λ vs. map value old ++ vs) (clones_have more ys all)

  -- the value of the element at a place
  pub get_or-map : (xs : List X) (k : ℕ) (x : X) (y : Y) → k < length xs → value (get_or xs k x) ≡ get_or (map value xs) k y
  get_or-map [] k x y lt = absurd (omega arith)
  get_or-map (z ∷ xs) zero x y lt = refl
  get_or-map (z ∷ xs) (suc k) x y lt = get_or-map xs k x y (omega arith)

  -- the values of what passes
  pub map-filter : (p : Y → Bool) (xs : List X) → map value (filter (λ x. p (value x)) xs) ≡ filter p (map value xs)
  map-filter p [] = refl
  map-filter p (x ∷ xs) = go (p (value x)) (map-filter p xs)
    where
      go : (t : Bool) → map value (filter (λ y. p (value y)) xs) ≡ filter p (map value xs) → map value (cond t (x ∷ filter (λ y. p (value y)) xs) (filter (λ y. p (value y)) xs)) ≡ cond t (value x ∷ filter p (map value xs)) (filter p (map value xs))
      go true ih = ap (λ vs. value x ∷ vs) ih
      go false ih = ih

-- ---- a row that is learnt

module _ {X : Type 0} (value : X → Row) where
  pub learn_row-shared : (most : ℕ) (row : X) (items kept cut new : List X) (word : List ℕ) → 1 ≤ most → word ≡ shown_of (value row)
      → kept ≡ filter (λ x. not (shows word (value x))) items → cut ≡ take (most - 1) kept → new ≡ row ∷ cut
      → map value new ≡ learn_row most (map value items) (value row)
  learn_row-shared most row items kept cut new word some shown kept_is cut_is new_is =
      let size : most ≡ suc (most - 1) = omega arith in
      let others = filter (λ r. not (shows (shown_of (value row)) r)) (map value items) in
      let same : map value kept ≡ others =
      ap (map value) kept_is
      ∙ map-filter value (λ r. not (shows word r)) items
      ∙ ap (λ w. filter (λ r. not (shows w r)) (map value items)) shown in
      ap (map value) (new_is ∙ ap (λ xs. row ∷ xs) cut_is)
      ∙ ap (λ rs. value row ∷ rs) (sym (take-map value (most - 1) kept) ∙ ap (take (most - 1)) same)
      ∙ ap (λ n. take n (value row ∷ others)) (sym size)

pub AreRowWords-learn_row : (most : ℕ) (rows : List Row) (row : Row) → AreRowWords rows → All IsRowWord row → AreRowWords (learn_row most rows row)
AreRowWords-learn_row most rows row all here =
    let P : Row → Type 0 = λ r. All IsRowWord r in
    let others = filter (λ r. not (shows (shown_of row) r)) rows in
    All-take P most (row ∷ others) (All-cons P row others here (All-filter (λ r. not (shows (shown_of row) r)) P rows all))

-- ---- a call that succeeds, or fails

pub put_is : {X E : Type 0} (r : Result (Unit {0}) E) (new put old : List X) → IsOk r → new ≡ cond (is_ok r) put old → new ≡ put
put_is (Ok u) new put old ok is = is
put_is (Err e) new put old ok is = absurd (cc ok)

pub from_ok : {T E : Type 0} (r : Result T E) (P : Type 0) → is_err r ≡ false → OnOk r P → P
from_ok (Ok t) P ok p = p
from_ok (Err e) P ok p = absurd (cc ok)

pub from_err : {T E : Type 0} (r : Result T E) (P : Type 0) → is_err r ≡ true → OnErr r P → P
from_err (Ok t) P err p = absurd (cc err)
from_err (Err e) P err p = p
