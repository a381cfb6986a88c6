-- What every grammar obeys.
use Rattle.std.specs.Prelude.{◌≡◌, ◌≢◌, ℕ, ◌+◌, ◌*◌, ◌≤◌, ◌<◌, Bool, true, false, List, [], ◌++◌, length, take}
use Rattle.rd_base.specs.declared.values.Scan.TheVariants.{Whole, Bad}
use Rattle.rd_base.specs.declared.values.Part.{Part}
use Rattle.rd_base.specs.declared.values.Part.TheVariants.{Request}
use Rattle.rd_base.specs.declared.values.Phase.{Phase}
use Rattle.rd_base.specs.declared.values.Note.{Note}
use Rattle.rd_dialect.specs.Grammar.{Grammar, scan_of, IsPart, tokens_of}

-- ys begins with xs
pub record IsFront {A : Type 0} (xs ys : List A) : Type 0 where
  pub rest : List A
  pub is : xs ++ rest ≡ ys

pub record Lawful (g : Grammar) : Type 0 where
  -- a whole unit has bytes, and they are there
  pub within : (part : Part) (phase : Phase) (note : Note) (bytes : List ℕ) (ended : Bool) (len : ℕ) → scan_of g part phase note bytes ended ≡ Whole len → len ≤ length bytes
  pub some_bytes : (part : Part) (phase : Phase) (note : Note) (bytes : List ℕ) (ended : Bool) (len : ℕ) → scan_of g part phase note bytes ended ≡ Whole len → 0 < len
  -- a unit is whole by itself
  pub itself : (part : Part) (phase : Phase) (note : Note) (bytes : List ℕ) (ended : Bool) (len : ℕ) → scan_of g part phase note bytes ended ≡ Whole len → scan_of g part phase note (take len bytes) ended ≡ Whole (length (take len bytes))
  -- what is whole before its link ends stays so, whatever follows
  pub stays : (part : Part) (phase : Phase) (note : Note) (bytes more : List ℕ) (ended : Bool) (len : ℕ) → scan_of g part phase note bytes false ≡ Whole len → scan_of g part phase note (bytes ++ more) ended ≡ Whole len
  -- hopeless bytes begin no unit, however they go on
  pub hopeless : (part : Part) (phase : Phase) (note : Note) (bytes more : List ℕ) (ended : Bool) (len : ℕ) → scan_of g part phase note bytes false ≡ Bad → scan_of g part phase note (bytes ++ more) ended ≢ Whole len
  -- the closed tokens of a part begin those of the longer part, and those of the whole
  pub online : (part : Part) (phase : Phase) (note : Note) (bytes more : List ℕ) (whole : Bool) → IsPart g part phase note (bytes ++ more) whole → IsFront (g.closed part phase note bytes) (tokens_of g part phase note (bytes ++ more) whole)
  -- the first cursor has all tokens before it
  pub all_left : (part : Part) (phase : Phase) (note : Note) (bytes : List ℕ) (whole : Bool) → IsPart g part phase note bytes whole → g.left part phase note (g.flat part phase note bytes whole) whole g.first_cursor ≡ tokens_of g part phase note bytes whole
  -- how long a flat form is, and how many tokens it gives
  pub flat_len : (part : Part) (phase : Phase) (note : Note) (bytes : List ℕ) (whole : Bool) → length (g.flat part phase note bytes whole) ≤ 3 * length bytes + 4
  pub token_count : (part : Part) (phase : Phase) (note : Note) (flat : List ℕ) (whole : Bool) → length (g.left part phase note flat whole g.first_cursor) ≤ length flat + 1
  -- the flat form of a part begins that of the longer part, and that of the whole
  pub flat_front : (part : Part) (phase : Phase) (note : Note) (bytes more : List ℕ) (whole : Bool) → IsPart g part phase note (bytes ++ more) whole → IsFront (g.flat part phase note bytes false) (g.flat part phase note (bytes ++ more) whole)
  -- after a farewell no bytes are a request
  pub last : (phase : Phase) (note : Note) (bytes : List ℕ) (len : ℕ) → g.is_farewell note ≡ true → g.scan_request (g.phase_after phase note []) bytes ≢ Whole len
  -- a request's tokens and its flat form don't depend on a note
  pub note_free : (phase : Phase) (note other : Note) (bytes : List ℕ) (whole : Bool) → tokens_of g Request phase note bytes whole ≡ tokens_of g Request phase other bytes whole
  pub flat_note_free : (phase : Phase) (note other : Note) (bytes : List ℕ) (whole : Bool) → g.flat Request phase note bytes whole ≡ g.flat Request phase other bytes whole
