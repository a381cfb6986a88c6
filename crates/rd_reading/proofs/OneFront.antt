-- Fronts of one list.
use Rattle.std.proofs.Common.{inl, inr, ◌≡◌, ℕ, zero, suc, ◌+◌, ◌-◌, ◌<◌, ◌≤◌, min, Bool, true, false, cond, List, [], ◌∷◌, ◌++◌, length, take, drop, refl, sym, ap, ap₂, subst, ◌∙◌, arith, length-take, get_or}
use Rattle.std.specs.Prelude.{◌⊎◌, nat_le, nat_lt, bytes_eq, slice_index_or}
use Rattle.std.specs.List.{All}
use Rattle.std.proofs.Math.Seq.{take-add}
use Rattle.std.proofs.lemmas.List.{take-take}
use Rattle.std.proofs.lemmas.List.Elements.{All-nil, All-cons}
use Rattle.std.proofs.lemmas.Bool.{and_parts, cases_lt}
use Rattle.std.proofs.lemmas.Bool.Decides.{nat_tests}
use Rattle.std.proofs.lemmas.Slice.Eq.{bytes_eq-Decides}
use Rattle.rd_rules.specs.Exchange.{Open}
use Rattle.rd_reading.specs.declared.growth.Extent.{Extent}
use Rattle.rd_reading.specs.Extents.{cut_back, all_cut_back}
use Rattle.rd_reading.specs.Fronts.{IsFrontOf, AreFronts, AreFrontsOf, longer, is_front_of, are_fronts_of}

all_of : {A : Type 0} (xs : List A) → take (length xs) xs ≡ xs
all_of [] = refl
all_of (x ∷ xs) = ap (λ ys. x ∷ ys) (all_of xs)

pub front-refl : (xs : List ℕ) → IsFrontOf xs xs
front-refl xs = sym (all_of xs)

-- a front is no longer
pub front-length : (xs top : List ℕ) → IsFrontOf xs top → length xs ≤ length top
front-length xs top is = let n = length-take (length xs) top in omega (arith, ap length is, n)

pub front-trans : (xs ys zs : List ℕ) → IsFrontOf xs ys → IsFrontOf ys zs → IsFrontOf xs zs
front-trans xs ys zs one other =
    let le = front-length xs ys one in
    one ∙ ap (take (length xs)) other ∙ take-take (length xs) (length ys) zs le

-- of two fronts of one list, the one that isn't longer is a front of the other
pub front-of-longer : (xs ys top : List ℕ) → IsFrontOf xs top → IsFrontOf ys top → length xs ≤ length ys → IsFrontOf xs ys
front-of-longer xs ys top one other le =
    one ∙ sym (take-take (length xs) (length ys) top le) ∙ ap (take (length xs)) (sym other)

pub take-front : (n : ℕ) (xs : List ℕ) → IsFrontOf (take n xs) xs
take-front zero xs = refl
take-front (suc n) [] = refl
take-front (suc n) (x ∷ xs) = ap (λ ys. x ∷ ys) (take-front n xs)

pub take-front-of : (n : ℕ) (xs top : List ℕ) → IsFrontOf xs top → IsFrontOf (take n xs) top
take-front-of n xs top is = front-trans (take n xs) xs top (take-front n xs) is

-- ---- the longer of two

longer-by : (P : List ℕ → Type 0) (xs ys : List ℕ) → P xs → P ys → P (longer xs ys)
longer-by P xs ys one other = by (nat_lt (length xs) (length ys))
  where
    by : (b : Bool) → P (cond b ys xs)
    by true = other
    by false = one

pub longer-front : (xs ys top : List ℕ) → IsFrontOf xs top → IsFrontOf ys top → IsFrontOf (longer xs ys) top
longer-front xs ys top one other = longer-by (λ zs. IsFrontOf zs top) xs ys one other

pub longer-first : (xs ys : List ℕ) → length xs ≤ length (longer xs ys)
longer-first xs ys = by (nat_lt (length xs) (length ys)) refl
  where
    by : (b : Bool) → nat_lt (length xs) (length ys) ≡ b → length xs ≤ length (cond b ys xs)
    by true is = grind (arith, nat_tests)
    by false is = omega arith

pub longer-second : (xs ys : List ℕ) → length ys ≤ length (longer xs ys)
longer-second xs ys = by (nat_lt (length xs) (length ys)) refl
  where
    by : (b : Bool) → nat_lt (length xs) (length ys) ≡ b → length ys ≤ length (cond b ys xs)
    by true is = omega arith
    by false is = grind (arith, nat_tests)

-- ---- bytes behind a common front

take-split : (k n : ℕ) (xs : List ℕ) → take (k + n) xs ≡ take k xs ++ take n (drop k xs)
take-split k n xs = take-add k n xs

module _ (bytes : List ℕ) (from : ℕ) (top : List ℕ) (before : IsFrontOf (take from bytes) top) where
  same_front : (n : ℕ) → n ≤ from → n ≤ length bytes → take n bytes ≡ take n top
  same_front n le within =
      let size = length-take from bytes in
      sym (take-take n from bytes le) ∙ ap (take n) before ∙ take-take n (length (take from bytes)) top (omega (arith, size))

  same_behind : (both : ℕ) → both ≤ length bytes → take (both - from) (drop from bytes) ≡ take (both - from) (drop from top) → from ≤ both → take both bytes ≡ take both top
  same_behind both within same le =
      let n : from + (both - from) ≡ both = omega arith in
      ap (λ k. take k bytes) (sym n) ∙ take-split from (both - from) bytes
      ∙ ap₂ (λ xs ys. xs ++ ys) (same_front from (omega arith) (omega arith)) same
      ∙ sym (take-split from (both - from) top) ∙ ap (λ k. take k top) n

  -- the same as far as both go
  both_fronts : take (min (length bytes) (length top)) bytes ≡ take (min (length bytes) (length top)) top → IsFrontOf bytes (longer top bytes) × IsFrontOf top (longer top bytes)
  both_fronts same = by (nat_lt (length top) (length bytes)) refl
    where
      by : (b : Bool) → nat_lt (length top) (length bytes) ≡ b → IsFrontOf bytes (cond b bytes top) × IsFrontOf top (cond b bytes top)
      by true is =
          let n : min (length bytes) (length top) ≡ length top = grind (arith, nat_tests) in
          (front-refl bytes, sym (all_of top) ∙ ap (λ k. take k top) (sym n) ∙ sym same ∙ ap (λ k. take k bytes) n)
      by false is =
          let n : min (length bytes) (length top) ≡ length bytes = grind (arith, nat_tests) in
          (sym (all_of bytes) ∙ ap (λ k. take k bytes) (sym n) ∙ same ∙ ap (λ k. take k top) n, front-refl top)

  pub short_on : min (length bytes) (length top) ≤ from → IsFrontOf bytes (longer top bytes) × IsFrontOf top (longer top bytes)
  short_on le = both_fronts (same_front (min (length bytes) (length top)) le (omega arith))

  pub goes_on : take (min (length bytes) (length top) - from) (drop from bytes) ≡ take (min (length bytes) (length top) - from) (drop from top) → from ≤ min (length bytes) (length top)
      → IsFrontOf bytes (longer top bytes) × IsFrontOf top (longer top bytes)
  goes_on same le = both_fronts (same_behind (min (length bytes) (length top)) (omega arith) same le)

-- ---- links

-- a link of those that were cut back
pub cut_at : (es : List Extent) (os : List Open) (i : ℕ) (d : Open) (e : Extent) (o : Open) → length es ≡ length os → i < length es
    → e ≡ get_or es i e → o ≡ get_or os i o → slice_index_or (all_cut_back es os) i d ≡ cut_back e o
cut_at [] os i d e o size lt is same = absurd (omega arith)
cut_at (x ∷ es) [] i d e o size lt is same = absurd (omega (arith, size))
cut_at (x ∷ es) (p ∷ os) zero d e o size lt is same = ap₂ cut_back (sym is) (sym same)
cut_at (x ∷ es) (p ∷ os) (suc i) d e o size lt is same = cut_at es os i d e o (omega (arith, size)) (omega arith) is same

pub length-cut : (es : List Extent) (os : List Open) → length (all_cut_back es os) ≡ length os
length-cut [] os = refl
length-cut (e ∷ es) [] = refl
length-cut (e ∷ es) (o ∷ os) = ap suc (length-cut es os)

pub front_at : (top : List ℕ) (es : List Extent) (os : List Open) (i : ℕ) (e : Extent) (o : Open) → AreFrontsOf top (all_cut_back es os) → length es ≡ length os → i < length es
    → e ≡ get_or es i e → o ≡ get_or os i o → IsFrontOf (take e.len o.bytes) top
front_at top es os i e o all size lt is same =
    let n = length-cut es os in
    subst (λ (p : Open). IsFrontOf p.bytes top) (cut_at es os i o e o size lt is same) (all i o (omega (arith, n, size, lt)))

-- a longer list has the same fronts
pub fronts-trans : (top longest : List ℕ) (os : List Open) → IsFrontOf top longest → AreFrontsOf top os → AreFrontsOf longest os
fronts-trans top longest os is all = λ k d lt. front-trans (slice_index_or os k d).bytes top longest (all k d lt) is

-- ---- links that are fronts of one another are fronts of one list

abbrev pub longest_in : List Open → List ℕ
longest_in [] = []
longest_in (o ∷ os) = longer o.bytes (longest_in os)

longest_by : (P : List ℕ → Type 0) (os : List Open) → P [] → All (λ (o : Open). P o.bytes) os → P (longest_in os)
longest_by P [] none all = none
longest_by P (o ∷ os) none all = longer-by P o.bytes (longest_in os) (all 0 o (omega arith)) (longest_by P os none (λ k d lt. all (suc k) d (omega arith)))

longest_most : (os : List Open) → All (λ (o : Open). length o.bytes ≤ length (longest_in os)) os
longest_most [] = All-nil (λ (o : Open). length o.bytes ≤ 0)
longest_most (o ∷ os) =
    let here = longer-first o.bytes (longest_in os) in
    let rest = longer-second o.bytes (longest_in os) in
    let more = longest_most os in
    All-cons (λ (p : Open). length p.bytes ≤ length (longer o.bytes (longest_in os))) o os here (λ k d lt. let le = more k d lt in omega (arith, le, rest))

no_front : (xs : List ℕ) → length xs ≤ 0 → IsFrontOf xs []
no_front [] le = refl
no_front (x ∷ xs) le = absurd (omega arith)

pub fronts-top : (os : List Open) → AreFronts os → AreFrontsOf (longest_in os) os
fronts-top os all = λ k d lt.
    let xs = (slice_index_or os k d).bytes in
    longest_by (λ zs. length xs ≤ length zs → IsFrontOf xs zs) os (no_front xs) (all k d lt) (longest_most os k d lt)

pub fronts-of : (top : List ℕ) (os : List Open) → AreFrontsOf top os → AreFronts os
fronts-of top os all = λ k d lt. λ m e below. λ le. front-of-longer (slice_index_or os k d).bytes (slice_index_or os m e).bytes top (all k d lt) (all m e below) le

pub fronts-none : (top : List ℕ) → AreFrontsOf top []
fronts-none top = λ k d lt. absurd (omega arith)

-- ---- tests

pub front-tested : (xs top : List ℕ) → is_front_of xs top ≡ true → IsFrontOf xs top
front-tested xs top e =
    let parts = and_parts (nat_le (length xs) (length top)) (bytes_eq xs (take (length xs) top)) e in
    (bytes_eq-Decides xs (take (length xs) top)).0 parts.1

pub fronts-tested : (top : List ℕ) (os : List Open) → are_fronts_of top os ≡ true → AreFrontsOf top os
fronts-tested top [] e = fronts-none top
fronts-tested top (o ∷ os) e =
    let parts = and_parts (is_front_of o.bytes top) (are_fronts_of top os) e in
    All-cons (λ (p : Open). IsFrontOf p.bytes top) o os (front-tested o.bytes top parts.0) (fronts-tested top os parts.1)

-- ---- a loop over places, one further

pub up_to : {X : Type 0} (P : X → Type 0) (xs : List X) (i : ℕ) → ((k : ℕ) (d : X) → k < i → P (slice_index_or xs k d)) → ((d : X) → P (slice_index_or xs i d))
    → (k : ℕ) (d : X) → k < i + 1 → P (slice_index_or xs k d)
up_to P xs i before here k d lt = by (cases_lt k i)
  where
    by : (k < i) ⊎ (i ≤ k) → P (slice_index_or xs k d)
    by (inl below) = before k d below
    by (inr le) = let same : i ≡ k = omega arith in subst (λ n. P (slice_index_or xs n d)) same (here d)
