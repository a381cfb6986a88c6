-- Spans of a flat form.
use Rattle.std.specs.Prelude.{ℕ, ◌≤◌, ◌<◌, ◌^◌, List, length, All}
use Rattle.rd_base.specs.declared.values.TokenSpan.{TokenSpan}

-- the span lies in a text of this length
pub record LiesIn (size : ℕ) (span : TokenSpan) : Type 0 where
  pub ordered : span.start ≤ span.end
  pub within : span.end ≤ size

-- fewer than 2^32 spans, each of which lies in the flat form
pub record IsCutFrom (flat : List ℕ) (spans : List TokenSpan) : Type 0 where
  pub within : All (LiesIn (length flat)) spans
  pub count : length spans < 2 ^ 32
