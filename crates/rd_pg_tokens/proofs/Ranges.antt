-- Ranges of bytes.
use Rattle.std.proofs.Common.{◌≡◌, ℕ, ◌+◌, ◌-◌, ◌≤◌, Bool, true, false, leb, List, [], ◌++◌, length, take, drop, length-take, length-drop, drop-drop, refl, sym, ap, ◌∙◌, arith}
use Rattle.std.specs.Prelude.{slice_range, min}
use Rattle.std.proofs.lemmas.Bool.{leb-true, leb-false}
use Rattle.std.proofs.Math.Nat.{min-le_left}
use Rattle.std.proofs.lemmas.List.{drop-take, take-take, drop_all}
use Rattle.rd_base.proofs.Cutting.{same_range}

pub range_none : (bytes : List ℕ) (a b : ℕ) → b ≤ a → slice_range bytes a b ≡ []
range_none bytes a b le = let none : b - a ≡ 0 = omega (arith, le) in ap (λ n. take n (drop a bytes)) none

-- as more bytes come
pub range_stays : (bytes more : List ℕ) (a b : ℕ) → b ≤ length bytes → slice_range (bytes ++ more) a b ≡ slice_range bytes a b
range_stays bytes more a b le = by (leb a b) refl
  where
    by : (t : Bool) → leb a b ≡ t → slice_range (bytes ++ more) a b ≡ slice_range bytes a b
    by true e = same_range bytes more a b (leb-true a b e) le
    by false e = let past : b ≤ a = omega (arith, leb-false a b e) in range_none (bytes ++ more) a b past ∙ sym (range_none bytes a b past)

-- within what stands from a place on
pub range_in : (bytes : List ℕ) (m a b : ℕ) → slice_range (drop m bytes) a b ≡ slice_range bytes (m + a) (m + b)
range_in bytes m a b = let size : b - a ≡ (m + b) - (m + a) = omega arith in ap (take (b - a)) (drop-drop a m bytes) ∙ ap (λ n. take n (drop (m + a) bytes)) size

-- what is left of a range
pub range_behind : (bytes : List ℕ) (a b k : ℕ) → drop k (slice_range bytes a b) ≡ slice_range bytes (a + k) b
range_behind bytes a b k = by (leb (a + k) b) refl
  where
    by : (t : Bool) → leb (a + k) b ≡ t → drop k (slice_range bytes a b) ≡ slice_range bytes (a + k) b
    by true e =
        let size : b - a ≡ k + (b - (a + k)) = omega (arith, leb-true (a + k) b e) in
        ap (λ n. drop k (take n (drop a bytes))) size ∙ drop-take k (b - (a + k)) (drop a bytes) ∙ ap (take (b - (a + k))) (drop-drop k a bytes)
    by false e =
        let past = leb-false (a + k) b e in
        drop_all k (slice_range bytes a b) (omega (arith, past, length-take (b - a) (drop a bytes), min-le_left (b - a) (length (drop a bytes)))) ∙ sym (range_none bytes (a + k) b (omega (arith, past)))

-- a range of a range
pub range_inner : (bytes : List ℕ) (a b i j : ℕ) → a + j ≤ b → slice_range (slice_range bytes a b) i j ≡ slice_range bytes (a + i) (a + j)
range_inner bytes a b i j le =
    let size : j - i ≡ (a + j) - (a + i) = omega arith in
    ap (take (j - i)) (range_behind bytes a b i)
    ∙ take-take (j - i) (b - (a + i)) (drop (a + i) bytes) (omega (arith, le))
    ∙ ap (λ n. take n (drop (a + i) bytes)) size

pub range_len : (bytes : List ℕ) (a b : ℕ) → b ≤ length bytes → length (slice_range bytes a b) ≡ b - a
range_len bytes a b le = by (leb a b) refl
  where
    by : (t : Bool) → leb a b ≡ t → length (slice_range bytes a b) ≡ b - a
    by true e = omega (arith, length-take (b - a) (drop a bytes), length-drop a bytes, le, leb-true a b e)
    by false e = omega (arith, ap length (range_none bytes a b (omega (arith, leb-false a b e))), leb-false a b e)

-- a range that begins at the lesser of two places
pub range_from : (bytes : List ℕ) (a b k : ℕ) → slice_range bytes (min (a + k) b) b ≡ drop k (slice_range bytes a b)
range_from bytes a b k = by (leb (a + k) b) refl ∙ sym (range_behind bytes a b k)
  where
    by : (t : Bool) → leb (a + k) b ≡ t → slice_range bytes (min (a + k) b) b ≡ slice_range bytes (a + k) b
    by true e = let least : min (a + k) b ≡ a + k = omega (arith, leb-true (a + k) b e) in ap (λ n. slice_range bytes n b) least
    by false e =
        let past = leb-false (a + k) b e in
        let least : min (a + k) b ≡ b = omega (arith, past) in
        ap (λ n. slice_range bytes n b) least ∙ range_none bytes b b (omega arith) ∙ sym (range_none bytes (a + k) b (omega (arith, past)))

-- the first bytes of a range
pub range_front : (bytes : List ℕ) (a b n : ℕ) → n ≤ b - a → slice_range bytes a (a + n) ≡ take n (slice_range bytes a b)
range_front bytes a b n le = let size : (a + n) - a ≡ n = omega arith in ap (λ k. take k (drop a bytes)) size ∙ sym (take-take n (b - a) (drop a bytes) le)
