-- Where the units of Toy end.
use Rattle.std.proofs.Common.{◌≡◌, ◌≢◌, ℕ, zero, suc, ◌+◌, ◌<◌, ◌≤◌, Bool, true, false, cond, List, [], ◌∷◌, ◌++◌, length, take, drop, refl, sym, ap, ◌∙◌, arith, length-drop}
use Rattle.std.proofs.lemmas.List.{drop-append-le, drop-take}
use Rattle.std.specs.Prelude.{◌==◌, ◌||◌, not}
use Rattle.std.specs.List.{list_any}
use Rattle.rd_base.specs.Scans.{behind}
use Rattle.rd_base.specs.declared.values.Scan.{Scan}
use Rattle.rd_base.specs.declared.values.Scan.TheVariants.{Whole, More, Bad, TooBig, Unsupported}
use Rattle.rd_dialect.specs.LineGrammar.{scan_line}
use Rattle.rd_dialect.specs.Scanned.{scan_bounds, scan_stays, scan_itself, scan_never_bad}
use Rattle.rd_toy.specs.ToyGrammar.{refused, scan_kinds, early_len, scan_answer}

refused_whole : (code b len : ℕ) → refused code b ≢ Whole len
refused_whole code b len e = by (b == 33) (b == 35) e
  where
    by : (t u : Bool) → cond t (Unsupported code) (cond u TooBig Bad) ≢ Whole len
    by true u e = cc e
    by false true e = cc e
    by false false e = cc e

-- a line that is a unit is one of plain lines
pub kinds_line : (kinds : List ℕ) (code : ℕ) (bytes : List ℕ) (len : ℕ) → scan_kinds kinds code bytes ≡ Whole len → scan_line bytes ≡ Whole len
kinds_line kinds code [] len e = absurd (cc e)
kinds_line kinds code (b ∷ bytes) len e = by (list_any (λ kind. kind == b) kinds) e
  where
    by : (t : Bool) → cond t (scan_line (b ∷ bytes)) (refused code b) ≡ Whole len → scan_line (b ∷ bytes) ≡ Whole len
    by true e = e
    by false e = absurd (refused_whole code b len e)

-- another front of as many bytes is scanned alike, where the first byte is the same
kinds_again : (kinds : List ℕ) (code b : ℕ) (bytes more : List ℕ) (len : ℕ) → scan_kinds kinds code (b ∷ bytes) ≡ Whole len → scan_line (b ∷ more) ≡ Whole len → scan_kinds kinds code (b ∷ more) ≡ Whole len
kinds_again kinds code b bytes more len e then = by (list_any (λ kind. kind == b) kinds) e
  where
    by : (t : Bool) → cond t (scan_line (b ∷ bytes)) (refused code b) ≡ Whole len → cond t (scan_line (b ∷ more)) (refused code b) ≡ Whole len
    by true e = then
    by false e = absurd (refused_whole code b len e)

pub kinds_stays : (kinds : List ℕ) (code : ℕ) (bytes more : List ℕ) (len : ℕ) → scan_kinds kinds code bytes ≡ Whole len → scan_kinds kinds code (bytes ++ more) ≡ Whole len
kinds_stays kinds code [] more len e = absurd (cc e)
kinds_stays kinds code (b ∷ bytes) more len e =
    kinds_again kinds code b bytes (bytes ++ more) len e (scan_stays (b ∷ bytes) more len (kinds_line kinds code (b ∷ bytes) len e))

pub kinds_itself : (kinds : List ℕ) (code : ℕ) (bytes : List ℕ) (len : ℕ) → scan_kinds kinds code bytes ≡ Whole len → scan_kinds kinds code (take len bytes) ≡ Whole len
kinds_itself kinds code [] len e = absurd (cc e)
kinds_itself kinds code (b ∷ bytes) zero e = absurd (omega (arith, (scan_bounds (b ∷ bytes) 0 (kinds_line kinds code (b ∷ bytes) 0 e)).0))
kinds_itself kinds code (b ∷ bytes) (suc len) e =
    kinds_again kinds code b bytes (take len bytes) (suc len) e (scan_itself (b ∷ bytes) (suc len) (kinds_line kinds code (b ∷ bytes) (suc len) e))

pub kinds_bad : (kinds : List ℕ) (code : ℕ) (bytes more : List ℕ) → scan_kinds kinds code bytes ≡ Bad → scan_kinds kinds code (bytes ++ more) ≡ Bad
kinds_bad kinds code [] more e = absurd (cc e)
kinds_bad kinds code (b ∷ bytes) more e = by (list_any (λ kind. kind == b) kinds) e
  where
    by : (t : Bool) → cond t (scan_line (b ∷ bytes)) (refused code b) ≡ Bad → cond t (scan_line (b ∷ bytes ++ more)) (refused code b) ≡ Bad
    by true e = absurd (scan_never_bad (b ∷ bytes) e)
    by false e = e

-- early lines are in front, and stay as they are where something has come behind them
pub early_within : (has_begun : Bool) (bytes : List ℕ) → early_len has_begun bytes ≤ length bytes
early_within has_begun [] = omega arith
early_within has_begun (b ∷ bytes) = by (has_begun || b == 43) (early_within (not (b == 10)) bytes)
  where
    by : (t : Bool) → early_len (not (b == 10)) bytes ≤ length bytes → cond t (early_len (not (b == 10)) bytes + 1) 0 ≤ suc (length bytes)
    by true h = omega arith
    by false h = omega arith

early_stays : (has_begun : Bool) (bytes more : List ℕ) → early_len has_begun bytes < length bytes → early_len has_begun (bytes ++ more) ≡ early_len has_begun bytes
early_stays has_begun [] more lt = absurd (omega arith)
early_stays has_begun (b ∷ bytes) more lt = by (has_begun || b == 43) (early_stays (not (b == 10)) bytes more) lt
  where
    by : (t : Bool) → (early_len (not (b == 10)) bytes < length bytes → early_len (not (b == 10)) (bytes ++ more) ≡ early_len (not (b == 10)) bytes)
        → cond t (early_len (not (b == 10)) bytes + 1) 0 < suc (length bytes) → cond t (early_len (not (b == 10)) (bytes ++ more) + 1) 0 ≡ cond t (early_len (not (b == 10)) bytes + 1) 0
    by true ih lt = ap (λ n. n + 1) (ih (omega arith))
    by false ih lt = refl

early_itself : (has_begun : Bool) (bytes : List ℕ) (n : ℕ) → early_len has_begun bytes < n → early_len has_begun (take n bytes) ≡ early_len has_begun bytes
early_itself has_begun [] zero lt = refl
early_itself has_begun [] (suc n) lt = refl
early_itself has_begun (b ∷ bytes) zero lt = absurd (omega arith)
early_itself has_begun (b ∷ bytes) (suc n) lt = by (has_begun || b == 43) (early_itself (not (b == 10)) bytes n) lt
  where
    by : (t : Bool) → (early_len (not (b == 10)) bytes < n → early_len (not (b == 10)) (take n bytes) ≡ early_len (not (b == 10)) bytes)
        → cond t (early_len (not (b == 10)) bytes + 1) 0 < suc n → cond t (early_len (not (b == 10)) (take n bytes) + 1) 0 ≡ cond t (early_len (not (b == 10)) bytes + 1) 0
    by true ih lt = ap (λ m. m + 1) (ih (omega arith))
    by false ih lt = refl

behind_whole : (count : ℕ) (s : Scan) (n : ℕ) → behind count s ≡ Whole n → (k : ℕ) × (s ≡ Whole k) × (n ≡ count + k)
behind_whole count (Whole k) n e = let same : count + k ≡ n = cc e in (k, refl, sym same)
behind_whole count More n e = absurd (cc e)
behind_whole count Bad n e = absurd (cc e)
behind_whole count TooBig n e = absurd (cc e)
behind_whole count (Unsupported c) n e = absurd (cc e)

behind_bad : (count : ℕ) (s : Scan) → behind count s ≡ Bad → s ≡ Bad
behind_bad count (Whole k) e = absurd (cc e)
behind_bad count More e = absurd (cc e)
behind_bad count Bad e = refl
behind_bad count TooBig e = absurd (cc e)
behind_bad count (Unsupported c) e = absurd (cc e)

-- what is told is told by a byte behind the early lines
kinds_some : (kinds : List ℕ) (bytes : List ℕ) (s : Scan) → s ≢ More → scan_kinds kinds 9 bytes ≡ s → 0 < length bytes
kinds_some kinds [] s told e = absurd (told (sym e))
kinds_some kinds (b ∷ bytes) s told e = omega arith

answer_further : (kinds bytes more : List ℕ) (s : Scan) → s ≢ More → scan_kinds kinds 9 (drop (early_len false bytes) bytes) ≡ s
    → scan_answer kinds (bytes ++ more) ≡ behind (early_len false bytes) (scan_kinds kinds 9 (drop (early_len false bytes) bytes ++ more))
answer_further kinds bytes more s told e =
    let some = kinds_some kinds (drop (early_len false bytes) bytes) s told e in
    let lt : early_len false bytes < length bytes = omega (arith, some, length-drop (early_len false bytes) bytes) in
    let within = early_within false bytes in
    ap (λ n. behind n (scan_kinds kinds 9 (drop n (bytes ++ more)))) (early_stays false bytes more lt)
    ∙ ap (λ b. behind (early_len false bytes) (scan_kinds kinds 9 b)) (drop-append-le (early_len false bytes) bytes more within)

pub answer_bounds : (kinds bytes : List ℕ) (n : ℕ) → scan_answer kinds bytes ≡ Whole n → (0 < n) × (n ≤ length bytes)
answer_bounds kinds bytes n e =
    let rest = drop (early_len false bytes) bytes in
    let r = behind_whole (early_len false bytes) (scan_kinds kinds 9 rest) n e in
    let bounds = scan_bounds rest r.0 (kinds_line kinds 9 rest r.0 r.1) in
    (omega (arith, r.2, bounds.0), omega (arith, r.2, bounds.1, length-drop (early_len false bytes) bytes, early_within false bytes))

pub answer_stays : (kinds bytes more : List ℕ) (n : ℕ) → scan_answer kinds bytes ≡ Whole n → scan_answer kinds (bytes ++ more) ≡ Whole n
answer_stays kinds bytes more n e =
    let rest = drop (early_len false bytes) bytes in
    let r = behind_whole (early_len false bytes) (scan_kinds kinds 9 rest) n e in
    answer_further kinds bytes more (Whole r.0) (λ e. cc e) r.1
    ∙ ap (behind (early_len false bytes)) (kinds_stays kinds 9 rest more r.0 r.1)
    ∙ ap Whole (sym r.2)

pub answer_bad : (kinds bytes more : List ℕ) → scan_answer kinds bytes ≡ Bad → scan_answer kinds (bytes ++ more) ≡ Bad
answer_bad kinds bytes more e =
    let rest = drop (early_len false bytes) bytes in
    let bad = behind_bad (early_len false bytes) (scan_kinds kinds 9 rest) e in
    answer_further kinds bytes more Bad (λ e. cc e) bad
    ∙ ap (behind (early_len false bytes)) (kinds_bad kinds 9 rest more bad)

pub answer_itself : (kinds bytes : List ℕ) (n : ℕ) → scan_answer kinds bytes ≡ Whole n → scan_answer kinds (take n bytes) ≡ Whole n
answer_itself kinds bytes n e =
    let count = early_len false bytes in
    let rest = drop count bytes in
    let r = behind_whole count (scan_kinds kinds 9 rest) n e in
    let some = (scan_bounds rest r.0 (kinds_line kinds 9 rest r.0 r.1)).0 in
    let cut : drop count (take n bytes) ≡ take r.0 rest = ap (λ m. drop count (take m bytes)) r.2 ∙ drop-take count r.0 bytes in
    ap (λ m. behind m (scan_kinds kinds 9 (drop m (take n bytes)))) (early_itself false bytes n (omega (arith, r.2, some)))
    ∙ ap (λ b. behind count (scan_kinds kinds 9 b)) cut
    ∙ ap (behind count) (kinds_itself kinds 9 rest r.0 r.1)
    ∙ ap Whole (sym r.2)
