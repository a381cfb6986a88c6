-- Scans that cut a stream into units in one way, however it comes.
use Rattle.std.proofs.Common.{◌≡◌, ◌≢◌, ℕ, ◌<◌, ◌≤◌, Bool, true, false, cond, List, ◌++◌, length, take, ◌∙◌}
use Rattle.rd_base.specs.declared.values.Scan.{Scan}
use Rattle.rd_base.specs.declared.values.Scan.TheVariants.{Whole, More, Bad}

pub record IsFraming (scan : List ℕ → Scan) : Type 0 where
  -- a unit has bytes, and they are there
  pub some_bytes : (bytes : List ℕ) (len : ℕ) → scan bytes ≡ Whole len → 0 < len
  pub within : (bytes : List ℕ) (len : ℕ) → scan bytes ≡ Whole len → len ≤ length bytes
  -- it is one by itself
  pub itself : (bytes : List ℕ) (len : ℕ) → scan bytes ≡ Whole len → scan (take len bytes) ≡ Whole (length (take len bytes))
  -- what is told stays, whatever follows
  pub told : (bytes more : List ℕ) → scan bytes ≢ More → scan (bytes ++ more) ≡ scan bytes

-- no unit begins another
pub framing_stays : {scan : List ℕ → Scan} → IsFraming scan → (bytes more : List ℕ) (len : ℕ) → scan bytes ≡ Whole len → scan (bytes ++ more) ≡ Whole len
framing_stays framing bytes more len is = framing.told bytes more (λ unclear. cc) ∙ is

-- bytes that begin no unit begin none however they go on
pub framing_hopeless : {scan : List ℕ → Scan} → IsFraming scan → (bytes more : List ℕ) (len : ℕ) → scan bytes ≡ Bad → scan (bytes ++ more) ≢ Whole len
framing_hopeless framing bytes more len is whole = let same = framing.told bytes more (λ unclear. cc) in cc

pub framing_cond : (t : Bool) (p q : List ℕ → Scan) → IsFraming p → IsFraming q → IsFraming (λ bytes. cond t (p bytes) (q bytes))
framing_cond true p q f g = f
framing_cond false p q f g = g
