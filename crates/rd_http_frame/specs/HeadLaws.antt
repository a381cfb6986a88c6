-- Heads are cut in one way, however their bytes come.
use Rattle.std.specs.Prelude.{ℕ, ◌<◌, ◌≤◌, List, ◌++◌, length, take}
use Rattle.rd_base.specs.declared.values.Scan.TheVariants.{Whole, Bad}
use Rattle.rd_base.specs.declared.values.Part.{Part}
use Rattle.rd_http_frame.specs.Heads.{IsHeadScan}

pub record IsHeadFraming (part : Part) : Type 0 where
  -- a head has bytes, and they are there
  pub some_bytes : (bytes : List ℕ) (len : ℕ) → IsHeadScan part bytes (Whole len) → 0 < len
  pub within : (bytes : List ℕ) (len : ℕ) → IsHeadScan part bytes (Whole len) → len ≤ length bytes
  -- it is one by itself
  pub itself : (bytes : List ℕ) (len : ℕ) → IsHeadScan part bytes (Whole len) → IsHeadScan part (take len bytes) (Whole len)
  -- no head begins another
  pub stays : (bytes more : List ℕ) (len : ℕ) → IsHeadScan part bytes (Whole len) → IsHeadScan part (bytes ++ more) (Whole len)
  -- bytes that begin no head begin none however they go on
  pub hopeless : (bytes more : List ℕ) (len : ℕ) → IsHeadScan part bytes Bad → IsHeadScan part (bytes ++ more) (Whole len) → ⊥
