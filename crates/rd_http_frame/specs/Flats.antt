-- The flat form of a request or a reply, in which its tokens lie: the final head, the body without the framing
-- of chunks, the trailer with its empty line, and the trailer's length. Interim heads are in none.
use Rattle.std.specs.Prelude.{◌≡◌, ℕ, Bool, false, if◌then◌else◌, List, [], ◌++◌, length, take, drop, slice_range, Result, Ok, Err}
use Rattle.std.specs.Int.{to_be_bytes, w32}
use Rattle.rd_base.specs.declared.values.Scan.{Scan}
use Rattle.rd_base.specs.declared.values.Part.{Part}
use Rattle.rd_base.specs.declared.values.Part.TheVariants.{Request, Reply}
use Rattle.rd_http_frame.specs.declared.body.BodyRule.{BodyRule}
use Rattle.rd_http_frame.specs.declared.body.BodyRule.TheVariants.{Empty, Length, Chunked, UntilEnd}
use Rattle.rd_http_frame.specs.declared.unit.FinalHead.{FinalHead}
use Rattle.rd_http_frame.specs.Heads.{seen}
use Rattle.rd_http_frame.specs.Chunks.{trailer_from, chunk_data}
use Rattle.rd_http_frame.specs.Units.{IsFinalHead, rule_in}

-- the body, as far as it is there: RFC 9112, section 6.3
abbrev pub body_data : BodyRule → List ℕ → List ℕ
body_data Empty bytes = []
body_data (Length size) bytes = take size bytes
body_data Chunked bytes = chunk_data bytes
body_data UntilEnd bytes = bytes

-- what follows the last size line, of which a trailer has at most 65,536 bytes
abbrev pub behind_last : List ℕ → Result ℕ Scan → List ℕ
behind_last bytes (Ok at) = seen (drop at bytes)
behind_last bytes (Err scan) = []

-- the trailer, which only a chunked body has
abbrev pub trailer_of : BodyRule → List ℕ → List ℕ
trailer_of Empty bytes = []
trailer_of (Length size) bytes = []
trailer_of Chunked bytes = behind_last bytes (trailer_from bytes)
trailer_of UntilEnd bytes = []

-- a trailer, and its length in four bytes, the high one first
abbrev pub with_length : List ℕ → List ℕ
with_length trailer = trailer ++ to_be_bytes w32 (length trailer)

-- the body, and at a whole one's end its trailer
abbrev pub flat_body : BodyRule → List ℕ → Bool → List ℕ
flat_body rule bytes whole = body_data rule bytes ++ (if whole then with_length (trailer_of rule bytes) else [])

-- the reply to a HEAD has no body; a HEAD itself may have one: RFC 9110, section 9.3.2
abbrev pub answers_head : Part → Bool → Bool
answers_head Request head_request = false
answers_head Reply head_request = head_request

-- nothing is there before the final head is whole
abbrev pub flat_behind : Bool → List ℕ → Bool → Result FinalHead Scan → List ℕ
flat_behind head_request bytes whole (Ok head) =
    slice_range bytes head.from head.to ++ flat_body (rule_in head_request head.body) (drop head.to bytes) whole
flat_behind head_request bytes whole (Err scan) = []

-- the flat form of a whole unit, or of a part of one
abbrev pub IsFlat : Part → Bool → List ℕ → Bool → List ℕ → Type 0
IsFlat part head_request bytes whole flat =
    (found : Result FinalHead Scan) × IsFinalHead part bytes found
    × (flat ≡ flat_behind (answers_head part head_request) bytes whole found)
