-- What a dialect means: functions of phases, notes and whole byte lists.
use Rattle.std.specs.Prelude.{◌≡◌, ℕ, ◌≤◌, Bool, true, false, cond, List, [], ◌∷◌, ◌++◌, length}
use Rattle.rd_base.specs.Token.{Token, token_of}
use Rattle.rd_base.specs.History.{Row}
use Rattle.rd_base.specs.declared.values.Phase.{Phase}
use Rattle.rd_base.specs.declared.values.Note.{Note}
use Rattle.rd_base.specs.declared.values.Cursor.{Cursor}
use Rattle.rd_base.specs.declared.values.TokenSpan.{TokenSpan}
use Rattle.rd_base.specs.declared.values.Scan.{Scan}
use Rattle.rd_base.specs.declared.values.Scan.TheVariants.{Whole, More, Bad, TooBig, Unsupported}
use Rattle.rd_base.specs.declared.values.Part.{Part}
use Rattle.rd_base.specs.declared.values.Part.TheVariants.{Request, Reply}

pub record Grammar : Type 0 where
  pub first_phase : Phase
  pub scan_request : Phase → List ℕ → Scan
  pub scan_reply : Phase → Note → List ℕ → Bool → Scan  -- of these bytes, and whether their link has ended
  pub note_of : Phase → List ℕ → Note  -- of a request
  pub phase_after : Phase → Note → List ℕ → Phase  -- after a reply
  pub is_farewell : Note → Bool
  pub early_replies : Bool
  pub learns_rows : Bool
  pub shown_from : Phase → Note → List ℕ → ℕ  -- where the shown part of a reply begins
  pub flat : Part → Phase → Note → List ℕ → Bool → List ℕ  -- the flat form of these bytes, and whether they are whole
  pub tokens : Part → Phase → Note → List ℕ → List Token  -- of a whole unit
  pub closed : Part → Phase → Note → List ℕ → List Token  -- of a part of one
  pub first_cursor : Cursor
  pub left : Part → Phase → Note → List ℕ → Bool → Cursor → List Token  -- the tokens of a flat form that a cursor has before it
  pub asked : Phase → Note → List ℕ → List (List ℕ)  -- the words of a request that are looked up
  pub to_copy : Phase → Note → ℕ → List Row → List Row → List ℕ → List ℕ  -- a request as a copy gets it, by own and told rows

abbrev pub scan_of : Grammar → Part → Phase → Note → List ℕ → Bool → Scan
scan_of g Request phase note bytes ended = g.scan_request phase bytes
scan_of g Reply phase note bytes ended = g.scan_reply phase note bytes ended

abbrev pub whole_len : Scan → ℕ
whole_len (Whole len) = len
whole_len More = 0
whole_len Bad = 0
whole_len TooBig = 0
whole_len (Unsupported code) = 0

-- the bytes are a whole unit, or a part of one
pub record IsPart (g : Grammar) (part : Part) (phase : Phase) (note : Note) (bytes : List ℕ) (whole : Bool) : Type 0 where
  pub ended : Bool
  pub scan : scan_of g part phase note bytes ended ≡ cond whole (Whole (length bytes)) More

-- a whole request
abbrev pub IsRequest : Grammar → Phase → List ℕ → Type 0
IsRequest g phase unit = g.scan_request phase unit ≡ Whole (length unit)

-- a whole reply. The empty one to a farewell is whole
pub data IsReply (g : Grammar) (phase : Phase) (note : Note) (reply : List ℕ) : Type 0 where
  Scanned : (ended : Bool) → g.scan_reply phase note reply ended ≡ Whole (length reply) → IsReply g phase note reply
  Farewell : g.is_farewell note ≡ true → reply ≡ [] → IsReply g phase note reply

abbrev pub tokens_of : Grammar → Part → Phase → Note → List ℕ → Bool → List Token
tokens_of g part phase note bytes true = g.tokens part phase note bytes
tokens_of g part phase note bytes false = g.closed part phase note bytes

-- the flat form of a part goes on like this, as more of the same bytes come
pub record Grows (g : Grammar) (part : Part) (phase : Phase) (note : Note) (flat more : List ℕ) (whole : Bool) : Type 0 where
  pub bytes : List ℕ
  pub further : List ℕ
  pub stands : IsPart g part phase note (bytes ++ further) whole
  pub before : g.flat part phase note bytes false ≡ flat
  pub after : g.flat part phase note (bytes ++ further) whole ≡ flat ++ more

-- the call for the next token gave this span and this cursor.
-- What it gave for a part it gives for all that the part becomes
pub record IsNext (g : Grammar) (part : Part) (phase : Phase) (note : Note) (flat : List ℕ) (whole : Bool) (cursor : Cursor) (span : TokenSpan) (next : Cursor) : Type 0 where
  pub ordered : span.start ≤ span.end
  pub within : span.end ≤ length flat
  pub here : g.left part phase note flat whole cursor ≡ token_of flat span ∷ g.left part phase note flat whole next
  pub on : whole ≡ false → (more : List ℕ) (then : Bool) → Grows g part phase note flat more then → g.left part phase note (flat ++ more) then cursor ≡ token_of flat span ∷ g.left part phase note (flat ++ more) then next
