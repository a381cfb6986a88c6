-- Requests and replies are cut in one way, however their bytes come.
use Rattle.std.specs.Prelude.{ℕ, ◌<◌, ◌≤◌, Bool, false, List, ◌++◌, length, take}
use Rattle.rd_base.specs.declared.values.Scan.{Scan}
use Rattle.rd_base.specs.declared.values.Scan.TheVariants.{Whole, Bad}

-- `Is ended bytes scan` says what bytes come to, of a link that has ended or not
pub record IsUnitFraming (Is : Bool → List ℕ → Scan → Type 0) : Type 0 where
  -- a unit has bytes, and they are there
  pub some_bytes : (ended : Bool) (bytes : List ℕ) (len : ℕ) → Is ended bytes (Whole len) → 0 < len
  pub within : (ended : Bool) (bytes : List ℕ) (len : ℕ) → Is ended bytes (Whole len) → len ≤ length bytes
  -- it is one by itself
  pub itself : (ended : Bool) (bytes : List ℕ) (len : ℕ) → Is ended bytes (Whole len) → Is ended (take len bytes) (Whole len)
  -- no unit begins another, but one that its link's end makes whole
  pub stays : (ended : Bool) (bytes more : List ℕ) (len : ℕ) → Is false bytes (Whole len) → Is ended (bytes ++ more) (Whole len)
  -- bytes that begin no unit begin none however they go on
  pub hopeless : (before ended : Bool) (bytes more : List ℕ) (len : ℕ) → Is before bytes Bad → Is ended (bytes ++ more) (Whole len) → ⊥

-- a scan finds the units: it is whole exactly where the bytes begin with one
pub record FindsUnits (IsUnit : Bool → List ℕ → Type 0) (Is : Bool → List ℕ → Scan → Type 0) : Type 0 where
  pub whole : (ended : Bool) (bytes : List ℕ) (len : ℕ) → Is ended bytes (Whole len) → IsUnit ended (take len bytes)
  pub found : (ended : Bool) (unit : List ℕ) → IsUnit ended unit → Is ended unit (Whole (length unit))
