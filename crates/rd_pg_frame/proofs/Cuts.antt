-- Parts of byte lists.
use Rattle.std.proofs.Common.{◌≡◌, ℕ, suc, ◌+◌, ◌-◌, ◌<◌, ◌≤◌, List, [], ◌∷◌, length, take, drop, get_or, drop-cons, arith, ap, ◌∙◌}
use Rattle.std.specs.Prelude.{slice_range}

-- one byte of a part
byte_more : (bytes : List ℕ) (at i n : ℕ) → n ≡ at + i → n < length bytes → drop (at + i) bytes ≡ get_or bytes n 0 ∷ drop (at + suc i) bytes
byte_more bytes at i n is lt =
    let next : suc n ≡ at + suc i = omega arith in
    ap (λ k. drop k bytes) (omega arith) ∙ drop-cons bytes n 0 lt ∙ ap (λ k. get_or bytes n 0 ∷ drop k bytes) next

pub two_at : (bytes : List ℕ) (at : ℕ) → at + 2 ≤ length bytes → slice_range bytes at (at + 2) ≡ get_or bytes at 0 ∷ get_or bytes (at + 1) 0 ∷ []
two_at bytes at h =
    let size : (at + 2) - at ≡ 2 = omega arith in
    ap (λ n. take n (drop at bytes)) size
    ∙ ap (take 2) (ap (λ k. drop k bytes) (omega arith) ∙ byte_more bytes at 0 at (omega arith) (omega arith))
    ∙ ap (λ d. get_or bytes at 0 ∷ take 1 d) (byte_more bytes at 1 (at + 1) (omega arith) (omega arith))

pub four_at : (bytes : List ℕ) (at : ℕ) → at + 4 ≤ length bytes → slice_range bytes at (at + 4) ≡ get_or bytes at 0 ∷ get_or bytes (at + 1) 0 ∷ get_or bytes (at + 2) 0 ∷ get_or bytes (at + 3) 0 ∷ []
four_at bytes at h =
    let size : (at + 4) - at ≡ 4 = omega arith in
    let b = λ (i : ℕ). get_or bytes (at + i) 0 in
    ap (λ n. take n (drop at bytes)) size
    ∙ ap (take 4) (ap (λ k. drop k bytes) (omega arith) ∙ byte_more bytes at 0 at (omega arith) (omega arith))
    ∙ ap (λ d. get_or bytes at 0 ∷ take 3 d) (byte_more bytes at 1 (at + 1) (omega arith) (omega arith))
    ∙ ap (λ d. get_or bytes at 0 ∷ b 1 ∷ take 2 d) (byte_more bytes at 2 (at + 2) (omega arith) (omega arith))
    ∙ ap (λ d. get_or bytes at 0 ∷ b 1 ∷ b 2 ∷ take 1 d) (byte_more bytes at 3 (at + 3) (omega arith) (omega arith))
