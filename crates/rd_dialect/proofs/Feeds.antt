-- The first line feed of bytes.
use Rattle.std.proofs.Common.{◌≡◌, ℕ, zero, suc, ◌+◌, ◌<◌, Bool, true, false, cond, eqb, List, [], ◌∷◌, length, refl, ap, ◌∙◌, arith}
use Rattle.std.specs.Prelude.{slice_index, ◌==◌}
use Rattle.rd_base.specs.declared.values.Scan.{Scan}
use Rattle.rd_base.specs.declared.values.Scan.TheVariants.{Whole, More, Bad, TooBig, Unsupported}
use Rattle.rd_dialect.specs.LineGrammar.{scan_line, one_more}

other_byte : (b : ℕ) (s : Scan) → (b == 10 ≡ true → ⊥) → cond (eqb b 10) (Whole 1) s ≡ s
other_byte b s ne = by (eqb b 10) ne
  where
    by : (t : Bool) → (t ≡ true → ⊥) → cond t (Whole 1) s ≡ s
    by true never = absurd (never refl)
    by false never = refl

feed : (b : ℕ) (s : Scan) → b == 10 ≡ true → cond (eqb b 10) (Whole 1) s ≡ Whole 1
feed b s is = ap (λ t. cond t (Whole 1) s) is

pub scan_found : (bytes : List ℕ) (k : ℕ) → k < length bytes → ((j : ℕ) → j < k → slice_index bytes j == 10 ≡ true → ⊥) → slice_index bytes k == 10 ≡ true → scan_line bytes ≡ Whole (k + 1)
scan_found [] k lt none is = absurd (omega arith)
scan_found (b ∷ bytes) zero lt none is = feed b (one_more (scan_line bytes)) is
scan_found (b ∷ bytes) (suc k) lt none is =
    let size : k + 1 + 1 ≡ suc k + 1 = omega arith in
    other_byte b (one_more (scan_line bytes)) (none 0 (omega arith))
    ∙ ap one_more (scan_found bytes k (omega arith) (λ j below. none (suc j) (omega arith)) is)
    ∙ ap Whole size

pub scan_none : (bytes : List ℕ) → ((j : ℕ) → j < length bytes → slice_index bytes j == 10 ≡ true → ⊥) → scan_line bytes ≡ More
scan_none [] none = refl
scan_none (b ∷ bytes) none =
    other_byte b (one_more (scan_line bytes)) (none 0 (omega arith))
    ∙ ap one_more (scan_none bytes (λ j below. none (suc j) (omega arith)))
