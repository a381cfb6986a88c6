-- The data of chunks, one at a time.
use Rattle.std.proofs.Common.{◌≡◌, ℕ, zero, suc, ◌+◌, ◌<◌, ◌≤◌, Bool, true, false, cond, ◌==◌, List, [], ◌∷◌, ◌++◌, length, take, drop, length-drop, Result, Ok, Err, Option, Some, None, refl, sym, ap, ◌∙◌, arith, append_assoc}
use Rattle.rd_base.specs.declared.values.Scan.{Scan}
use Rattle.rd_http_frame.specs.declared.chunk.SizeLine.{SizeLine}
use Rattle.rd_http_frame.specs.Chunks.{size_line, data_line, data_behind, data_up_to, chunk_data}
use Rattle.rd_http_frame.proofs.ChunkSteps.{line_fits}

pub data_shows : (r : Result SizeLine Scan) (line : SizeLine) → data_line r ≡ Some line → r ≡ Ok line
data_shows (Ok there) line e = ap Ok (by (there.size == 0) e)
  where
    by : (t : Bool) → cond t None (Some there) ≡ Some line → there ≡ line
    by true q = absurd (cc q)
    by false q = cc q
data_shows (Err scan) line e = absurd (cc e)

-- what follows a chunk has fewer bytes
pub data_fewer : (bytes : List ℕ) (line : SizeLine) → data_line (size_line bytes) ≡ Some line → length (drop (line.size + 2) (drop line.len bytes)) < length bytes
data_fewer bytes line e =
    let fits = line_fits bytes line (data_shows (size_line bytes) line e) in
    omega (arith, fits.0, fits.1, length-drop (line.size + 2) (drop line.len bytes), length-drop line.len bytes)

enough : (n m : ℕ) (bytes : List ℕ) → length bytes ≤ n → length bytes ≤ m → data_up_to n bytes ≡ data_up_to m bytes
enough zero zero bytes h k = refl
enough zero (suc m) [] h k = refl
enough zero (suc m) (b ∷ bytes) h k = absurd (omega arith)
enough (suc n) zero [] h k = refl
enough (suc n) zero (b ∷ bytes) h k = absurd (omega arith)
enough (suc n) (suc m) bytes h k = go (λ rest. enough n m rest) (data_line (size_line bytes)) refl
  where
    go : ((rest : List ℕ) → length rest ≤ n → length rest ≤ m → data_up_to n rest ≡ data_up_to m rest)
        → (r : Option SizeLine) → data_line (size_line bytes) ≡ r → data_behind bytes (data_up_to n) r ≡ data_behind bytes (data_up_to m) r
    go ih (Some line) is =
        let less = data_fewer bytes line is in
        let rest = drop (line.size + 2) (drop line.len bytes) in
        ap (λ t. take line.size (drop line.len bytes) ++ t) (ih rest (omega (arith, less, h)) (omega (arith, less, k)))
    go ih None is = refl

pub data_step : (bytes : List ℕ) → chunk_data bytes ≡ data_behind bytes chunk_data (data_line (size_line bytes))
data_step [] = refl
data_step (b ∷ bytes) = go (data_line (size_line (b ∷ bytes))) refl
  where
    go : (r : Option SizeLine) → data_line (size_line (b ∷ bytes)) ≡ r → data_behind (b ∷ bytes) (data_up_to (length bytes)) r ≡ data_behind (b ∷ bytes) chunk_data r
    go (Some line) is =
        let less = data_fewer (b ∷ bytes) line is in
        let rest = drop (line.size + 2) (drop line.len (b ∷ bytes)) in
        ap (λ t. take line.size (drop line.len (b ∷ bytes)) ++ t) (enough (length bytes) (length rest) rest (omega (arith, less)) (omega arith))
    go None is = refl

pub data_here : (bytes : List ℕ) (line : SizeLine) → data_line (size_line bytes) ≡ Some line
    → chunk_data bytes ≡ take line.size (drop line.len bytes) ++ chunk_data (drop (line.size + 2) (drop line.len bytes))
data_here bytes line e = data_step bytes ∙ ap (data_behind bytes chunk_data) e

pub data_none : (bytes : List ℕ) → data_line (size_line bytes) ≡ None → chunk_data bytes ≡ []
data_none bytes e = data_step bytes ∙ ap (data_behind bytes chunk_data) e

-- one chunk more is pushed
pub data_pushed : (old out made bytes rest after all : List ℕ) (line : SizeLine) → data_line (size_line rest) ≡ Some line
    → after ≡ drop (line.size + 2) (drop line.len rest) → made ≡ out ++ take line.size (drop line.len rest)
    → out ++ chunk_data rest ≡ old ++ chunk_data bytes → made ++ chunk_data after ≡ old ++ chunk_data bytes
data_pushed old out made bytes rest after all line is e f same =
    ap (λ (t : List ℕ). t ++ chunk_data after) f
    ∙ ap (λ (t : List ℕ). (out ++ take line.size (drop line.len rest)) ++ chunk_data t) e
    ∙ append_assoc out (take line.size (drop line.len rest)) (chunk_data (drop (line.size + 2) (drop line.len rest)))
    ∙ ap (λ (t : List ℕ). out ++ t) (sym (data_here rest line is))
    ∙ same
