-- The first element that passes a test: where it stands, and what moves it.
use Rattle.std.proofs.Common.{◌∙◌, ◌-◌, ◌≡◌, ℕ, zero, suc, ◌+◌, ◌<◌, ◌≤◌, Bool, true, false, cond, not, List, [], ◌∷◌, ◌++◌, length, set, Some, refl, sym, ap, subst, arith}
use Rattle.std.specs.Prelude.{slice_get}
use Rattle.std.specs.List.{position_or_len}
use Rattle.std.proofs.lemmas.List.Sums.{prefix_len-le-length}
use Rattle.rd_board.specs.declared.latest.BoardNote.{BoardNote}
use Rattle.rd_board.specs.Latest.{passes, passes_at as holds_at}

pub passes_at : {X : Type 0} (p : X → Bool) (xs : List X) (i : ℕ) (x : X) → slice_get xs i ≡ Some x → i ≤ position_or_len p xs → p x ≡ true → position_or_len p xs ≡ i
passes_at p [] i x at within is = absurd (cc at)
passes_at p (y ∷ ys) zero x at within is =
    let same : y ≡ x = cc at in
    let test : p y ≡ true = ap p same ∙ is in
    ap (λ t. cond (not t) (1 + position_or_len p ys) 0) test
passes_at p (y ∷ ys) (suc i) x at within is = go (p y) within (λ le. passes_at p ys i x at le is)
  where
    go : (t : Bool) → suc i ≤ cond (not t) (1 + position_or_len p ys) 0 → (i ≤ position_or_len p ys → position_or_len p ys ≡ i) → cond (not t) (1 + position_or_len p ys) 0 ≡ suc i
    go true le ih = absurd (omega arith)
    go false le ih =
        let same = ih (omega arith) in omega arith

pub goes_past : {X : Type 0} (p : X → Bool) (xs : List X) (i : ℕ) (x : X) → slice_get xs i ≡ Some x → i ≤ position_or_len p xs → p x ≡ false → i + 1 ≤ position_or_len p xs
goes_past p [] i x at within is = absurd (cc at)
goes_past p (y ∷ ys) zero x at within is =
    let same : y ≡ x = cc at in
    let test : p y ≡ false = ap p same ∙ is in
    subst (λ t. 0 + 1 ≤ cond (not t) (1 + position_or_len p ys) 0) (sym test) (omega arith)
goes_past p (y ∷ ys) (suc i) x at within is = go (p y) within (λ le. goes_past p ys i x at le is)
  where
    go : (t : Bool) → suc i ≤ cond (not t) (1 + position_or_len p ys) 0 → (i ≤ position_or_len p ys → i + 1 ≤ position_or_len p ys) → suc i + 1 ≤ cond (not t) (1 + position_or_len p ys) 0
    go true le ih = absurd (omega arith)
    go false le ih =
        let past = ih (omega arith) in omega arith

-- more elements behind don't bring it nearer
pub first-append : {X : Type 0} (p : X → Bool) (xs ys : List X) → position_or_len p xs ≤ position_or_len p (xs ++ ys)
first-append p [] ys = omega arith
first-append p (x ∷ xs) ys = go (p x) (first-append p xs ys)
  where
    go : (t : Bool) → position_or_len p xs ≤ position_or_len p (xs ++ ys) → cond (not t) (1 + position_or_len p xs) 0 ≤ cond (not t) (1 + position_or_len p (xs ++ ys)) 0
    go true ih = omega arith
    go false ih = omega arith

-- without the first element it is at most one place nearer
pub first-tail : {X : Type 0} (p : X → Bool) (x : X) (xs : List X) (from : ℕ) → from ≤ position_or_len p (x ∷ xs) → from - 1 ≤ position_or_len p xs
first-tail p x xs from within = go (p x) within
  where
    go : (t : Bool) → from ≤ cond (not t) (1 + position_or_len p xs) 0 → from - 1 ≤ position_or_len p xs
    go true le = omega arith
    go false le = omega arith

-- a write of an element that fails doesn't bring it nearer
pub first-set : {X : Type 0} (p : X → Bool) (xs : List X) (i : ℕ) (y : X) → p y ≡ false → position_or_len p xs ≤ position_or_len p (set xs i y)
first-set p [] i y is = omega arith
first-set p (x ∷ xs) zero y is = subst (λ t. cond (not (p x)) (1 + position_or_len p xs) 0 ≤ cond (not t) (1 + position_or_len p xs) 0) (sym is) (go (p x))
  where
    go : (t : Bool) → cond (not t) (1 + position_or_len p xs) 0 ≤ 1 + position_or_len p xs
    go true = omega arith
    go false = omega arith
first-set p (x ∷ xs) (suc i) y is = go (p x) (first-set p xs i y is)
  where
    go : (t : Bool) → position_or_len p xs ≤ position_or_len p (set xs i y) → cond (not t) (1 + position_or_len p xs) 0 ≤ cond (not t) (1 + position_or_len p (set xs i y)) 0
    go true ih = omega arith
    go false ih = omega arith

-- a test that fails wherever another fails is first passed no sooner
pub first-narrower : {X : Type 0} (p q : X → Bool) → ((x : X) → p x ≡ false → q x ≡ false) → (xs : List X) → position_or_len p xs ≤ position_or_len q xs
first-narrower p q h [] = omega arith
first-narrower p q h (x ∷ xs) = go (p x) (q x) (h x) (first-narrower p q h xs)
  where
    go : (t u : Bool) → (t ≡ false → u ≡ false) → position_or_len p xs ≤ position_or_len q xs → cond (not t) (1 + position_or_len p xs) 0 ≤ cond (not u) (1 + position_or_len q xs) 0
    go true u f ih = omega arith
    go false false f ih = omega arith
    go false true f ih = absurd (cc (f refl))

-- ---- a test of the note that stands at a place

there : {X : Type 0} (xs : List X) (i : ℕ) → i < length xs → (x : X) × (slice_get xs i ≡ Some x)
there [] i lt = absurd (omega arith)
there (x ∷ xs) zero lt = (x, refl)
there (x ∷ xs) (suc i) lt = there xs i (omega arith)

pub passed_at : (p : BoardNote → Bool) (xs : List BoardNote) (i : ℕ) → i < length xs → i ≤ position_or_len p xs → holds_at p xs i ≡ true → position_or_len p xs ≡ i
passed_at p xs i lt le is =
    let (x, at) = there xs i lt in
    passes_at p xs i x at le (sym (ap (passes p) at) ∙ is)

pub failed_at : (p : BoardNote → Bool) (xs : List BoardNote) (i : ℕ) → i < length xs → i ≤ position_or_len p xs → holds_at p xs i ≡ false → i + 1 ≤ position_or_len p xs
failed_at p xs i lt le is =
    let (x, at) = there xs i lt in
    goes_past p xs i x at le (sym (ap (passes p) at) ∙ is)

pub past_all : {X : Type 0} (p : X → Bool) (xs : List X) (n : ℕ) → n ≡ length xs → n ≤ position_or_len p xs → n ≡ position_or_len p xs
past_all p xs n is le = let most = prefix_len-le-length (λ x. not (p x)) xs in omega arith
