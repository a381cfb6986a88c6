-- What is kept of what copies have said.
use Rattle.std.specs.Prelude.{ℕ, ◌≡◌, ◌≤◌, ◌<◌, ◌+◌, ◌-◌, ◌^◌, ◌&&◌, not, nat_lt, Bool, true, false, if◌then◌else◌, List, [], ◌∷◌, length, map, drop, Option, Some, None, slice_get}
use Rattle.std.specs.List.{list_all}
use Rattle.rd_base.specs.Limits.{AreMaskLimits}
use Rattle.rd_base.specs.Swap.{is_row_word}
use Rattle.rd_base.specs.Token.{Token}
use Rattle.rd_base.specs.Heard.{Heard, early_verdict, judged_places, lists_of}
use Rattle.rd_base.specs.Verdicts.{rows_at, mask_of, is_agreed}
use Rattle.rd_base.specs.declared.values.MaskLimits.{MaskLimits}
use Rattle.rd_base.specs.declared.verdict.Verdict.{Verdict}
use Rattle.rd_stream_verdict.specs.Said.{answer_of, with_token, with_end}
use Rattle.rd_stream_verdict.specs.Queue.{bytes_in}

-- of one copy: the number of its tokens so far, those that wait to be judged, and whether they are all
pub record CopyKept : Type 0 where
  pub fed : ℕ
  pub waiting : List Token
  pub is_whole : Bool

-- the limits, the verdict on the judged places, the rows of those that are masked, and what is kept of each copy
pub record Kept : Type 0 where
  pub most : MaskLimits
  pub found : Verdict
  pub rows : List (List (List ℕ))
  pub copies : List CopyKept

-- the tokens at places that aren't judged wait; after a fault none does
abbrev pub kept_of : Bool → ℕ → Heard → CopyKept
kept_of agreed places copy = record {
  fed = length copy.tokens;
  waiting = if agreed then drop places copy.tokens else [];
  is_whole = copy.is_whole;
}

-- what is kept where the copies have said this
pub record IsAt (said : List Heard) (kept : Kept) : Type 0 where
  pub found : kept.found ≡ early_verdict kept.most said
  pub rows : kept.rows ≡ rows_at (lists_of said) (mask_of (early_verdict kept.most said))
  pub copies : kept.copies ≡ map (kept_of (is_agreed (early_verdict kept.most said)) (judged_places said)) said

-- 3 to 8 copies, limits in their ranges, and something that the copies can have said
pub record IsReached (kept : Kept) : Type 0 where
  pub three : 3 ≤ length kept.copies
  pub eight : length kept.copies ≤ 8
  pub limits : AreMaskLimits kept.most
  pub said : List Heard
  pub at : IsAt said kept

-- whatever the copies had said before, one of them has said a token more
pub record HasHeard (copy : ℕ) (t : Token) (old new : Kept) : Type 0 where
  pub most : new.most ≡ old.most
  pub at : (said : List Heard) → IsAt said old → IsAt (with_token copy t said) new

-- whatever the copies had said before, one of them has no more tokens
pub record HasClosed (copy : ℕ) (old new : Kept) : Type 0 where
  pub most : new.most ≡ old.most
  pub at : (said : List Heard) → IsAt said old → IsAt (with_end copy said) new

-- a copy that is there, isn't closed and was fed fewer than 2^32-1 tokens
abbrev pub can_take : Option CopyKept → Bool
can_take (Some copy) = not copy.is_whole && nat_lt copy.fed (2 ^ 32 - 1)
can_take None = false

-- what has been found out so far
abbrev pub kept_answer : Kept → Option Verdict
kept_answer kept = answer_of (list_all (λ copy. copy.is_whole) kept.copies) kept.found

-- the answer is Agreed
abbrev pub agrees : Option Verdict → Bool
agrees (Some found) = is_agreed found
agrees None = false

-- ---- bytes

abbrev pub text_bytes : Option (List ℕ) → ℕ
text_bytes (Some text) = length text
text_bytes None = 0

-- the bytes of a copy's texts in rows
abbrev pub row_bytes : ℕ → List (List (List ℕ)) → ℕ
row_bytes copy [] = 0
row_bytes copy (row ∷ rows) = text_bytes (slice_get row copy) + row_bytes copy rows

-- rows that have a text of this copy, of words that a row may hold
abbrev pub HaveWords : ℕ → List (List (List ℕ)) → Type 0
HaveWords copy [] = Unit {0}
HaveWords copy (row ∷ rows) = (copy < length row) × (list_all is_row_word row ≡ true) × HaveWords copy rows

abbrev pub waiting_bytes : Option CopyKept → ℕ
waiting_bytes (Some copy) = bytes_in copy.waiting
waiting_bytes None = 0

-- the bytes that are kept of a copy: those of its tokens that wait, and those of its texts in rows
abbrev pub kept_bytes : ℕ → Kept → ℕ
kept_bytes copy kept = waiting_bytes (slice_get kept.copies copy) + row_bytes copy kept.rows

abbrev pub bytes_past : ℕ → Option Heard → ℕ
bytes_past places (Some copy) = bytes_in (drop places copy.tokens)
bytes_past places None = 0

-- the bytes of a copy's tokens at places that aren't judged
abbrev pub unjudged_bytes : ℕ → List Heard → ℕ
unjudged_bytes copy said = bytes_past (judged_places said) (slice_get said copy)
