-- The walk over interim heads.
use Rattle.std.proofs.Common.{◌≡◌, ℕ, ◌+◌, true, false, List, drop, drop-drop, Result, Ok, Err, refl, sym, ap, ◌∙◌, subst, arith, add_assoc, add-zero}
use Rattle.rd_base.specs.declared.values.Scan.{Scan}
use Rattle.rd_base.specs.declared.values.Part.{Part}
use Rattle.rd_http_frame.specs.declared.scan.WholeHead.{WholeHead}
use Rattle.rd_http_frame.specs.declared.unit.FinalHead.{FinalHead}
use Rattle.rd_http_frame.specs.Places.{HeadPlaces}
use Rattle.rd_http_frame.specs.WholeHeads.{IsWholeHead}
use Rattle.rd_http_frame.specs.Units.{IsFinalHead, head_behind, is_interim}
use Rattle.rd_http_frame.specs.Units.IsFinalHead.{Missing, Interim, Final}

-- what is found behind so many bytes is found
abbrev pub Walks : Part → List ℕ → ℕ → Type 0
Walks part bytes at = (found : Result FinalHead Scan) → IsFinalHead part (drop at bytes) found → IsFinalHead part bytes (head_behind at found)

head_behind_twice : (m n : ℕ) (found : Result FinalHead Scan) → head_behind m (head_behind n found) ≡ head_behind (m + n) found
head_behind_twice m n (Ok head) =
    ap (λ (k : ℕ). Ok (record { from = k; to = m + (n + head.to); body = head.body })) (sym (add_assoc m n head.from))
    ∙ ap (λ (k : ℕ). Ok (record { from = m + n + head.from; to = k; body = head.body })) (sym (add_assoc m n head.to))
head_behind_twice m n (Err scan) = refl

pub head_behind_none : (found : Result FinalHead Scan) → found ≡ head_behind 0 found
head_behind_none (Ok head) =
    let from : head.from ≡ 0 + head.from = omega arith in
    let to : head.to ≡ 0 + head.to = omega arith in
    ap (λ (k : ℕ). Ok (record { from = k; to = head.to; body = head.body })) from ∙ ap (λ (k : ℕ). Ok (record { from = 0 + head.from; to = k; body = head.body })) to
head_behind_none (Err scan) = refl

pub walk_begins : (part : Part) (bytes : List ℕ) → Walks part bytes 0
walk_begins part bytes found x = subst (λ (r : Result FinalHead Scan). IsFinalHead part bytes r) (head_behind_none found) x

pub walk_missing : (part : Part) (bytes : List ℕ) (at : ℕ) (text : List ℕ) (scan : Scan) → text ≡ drop at bytes → IsWholeHead part text (Err scan) → Walks part bytes at
    → IsFinalHead part bytes (Err scan)
walk_missing part bytes at text scan e x walks =
    let here = subst (λ (t : List ℕ). IsWholeHead part t (Err scan)) e x in
    walks (Err scan) (Missing (drop at bytes) scan (Err scan) here.0 here.1 refl)

pub walk_final : (part : Part) (bytes : List ℕ) (at : ℕ) (text : List ℕ) (found : WholeHead) → text ≡ drop at bytes → IsWholeHead part text (Ok found) → is_interim found.status ≡ false → Walks part bytes at
    → IsFinalHead part bytes (Ok (record { from = at; to = at + found.len; body = found.body }))
walk_final part bytes at text found e x last walks =
    let here = subst (λ (t : List ℕ). IsWholeHead part t (Ok found)) e x in
    let head : HeadPlaces = here.0 in
    let final = walks (Ok (record { from = 0; to = found.len; body = found.body }))
    (Final (drop at bytes) found.len head (Ok (record { from = 0; to = found.len; body = found.body })) here.1 (ap is_interim (sym here.2) ∙ last)
    (ap (λ b. Ok (record { from = 0; to = found.len; body = b })) here.3)) in
    subst (λ (k : ℕ). IsFinalHead part bytes (Ok (record { from = k; to = at + found.len; body = found.body }))) (add-zero at) final

pub walk_interim : (part : Part) (bytes : List ℕ) (at : ℕ) (text : List ℕ) (found : WholeHead) → text ≡ drop at bytes → IsWholeHead part text (Ok found) → is_interim found.status ≡ true → Walks part bytes at
    → Walks part bytes (at + found.len)
walk_interim part bytes at text found e x interim walks later y =
    let here = subst (λ (t : List ℕ). IsWholeHead part t (Ok found)) e x in
    let head : HeadPlaces = here.0 in
    let z = walks (head_behind found.len later)
    (Interim (drop at bytes) found.len head later (head_behind found.len later) here.1 (ap is_interim (sym here.2) ∙ interim)
    (subst (λ (t : List ℕ). IsFinalHead part t later) (sym (drop-drop found.len at bytes)) y) refl) in
    subst (λ (r : Result FinalHead Scan). IsFinalHead part bytes r) (head_behind_twice at found.len later) z
