-- What a request is, and a reply: RFC 9112, sections 2.1, 5, 6.3 and 7.1. Heads and trailers are those of
-- httparse's default grammar, of at most 100 fields and 65,536 bytes. A chunk's size has at most 8 digits, and no
-- chunk has an extension.
use Rattle.std.specs.Prelude.{◌≡◌, ℕ, ◌<◌, ◌≤◌, Bool, true, false, List, [], ◌∷◌, ◌++◌, length, All}
use Rattle.std.specs.List.{list_all}
use Rattle.std.specs.Char.{is_ascii_hexdigit}
use Rattle.std.specs.Str.Parse.{digits_value}
use Rattle.httparse.specs.Grammar.{Field, IsField, LineEnd, print_section, RequestHead, IsRequestHead, print_request, ResponseHead, IsResponseHead, print_response}
use Rattle.rd_base.specs.declared.values.Scan.TheVariants.{Whole}
use Rattle.rd_base.specs.declared.values.Part.{Part}
use Rattle.rd_base.specs.declared.values.Part.TheVariants.{Request, Reply}
use Rattle.rd_http_frame.specs.declared.body.BodyRule.{BodyRule}
use Rattle.rd_http_frame.specs.declared.body.BodyRule.TheVariants.{Empty, Length, Chunked, UntilEnd}
use Rattle.rd_http_frame.specs.Heads.{request_answer, reply_answer}
use Rattle.rd_http_frame.specs.Places.{HeadPlaces, request_places, reply_places}
use Rattle.rd_http_frame.specs.Units.{is_interim, rule_in}

-- a size, in 1 to 8 hexadecimal digits, and CR LF
pub record IsSizeLine (size : ℕ) (line : List ℕ) : Type 0 where
  pub digits : List ℕ
  pub some : 1 ≤ length digits
  pub few : length digits ≤ 8
  pub hexadecimal : list_all is_ascii_hexdigit digits ≡ true
  pub counts : size ≡ digits_value 16 digits
  pub is : line ≡ digits ++ 13 ∷ 10 ∷ []

-- field lines, and an empty line
pub record IsTrailer (trailer : List ℕ) : Type 0 where
  pub fields : List Field
  pub last : LineEnd
  pub good : All IsField fields
  pub few : length fields ≤ 100
  pub is : trailer ≡ print_section fields last
  pub short : length trailer ≤ 65536

-- chunks, each of some content between its size and CR LF, then a size of zero and a trailer
pub data IsChunked : List ℕ → Type 0 where
  Last : (line trailer bytes : List ℕ) → IsSizeLine 0 line → IsTrailer trailer → bytes ≡ line ++ trailer → IsChunked bytes
  Chunk : (line content rest bytes : List ℕ) → IsSizeLine (length content) line → 0 < length content → IsChunked rest
      → bytes ≡ line ++ (content ++ 13 ∷ 10 ∷ rest) → IsChunked bytes

-- a body, by what its head says of it
abbrev pub IsBody : BodyRule → Bool → List ℕ → Type 0
IsBody Empty ended bytes = length bytes ≡ 0
IsBody (Length size) ended bytes = length bytes ≡ size
IsBody Chunked ended bytes = IsChunked bytes
IsBody UntilEnd ended bytes = ended ≡ true

-- a request head that is taken, and where its parts are
pub record IsRequestHeadOf (bytes : List ℕ) (head : HeadPlaces) : Type 0 where
  pub h : RequestHead
  pub good : IsRequestHead h
  pub is : bytes ≡ print_request h
  pub few : length h.fields ≤ 100
  pub short : length bytes ≤ 65536
  pub taken : request_answer h ≡ Whole (length bytes)
  pub places : head ≡ request_places h

-- the same of a reply
pub record IsReplyHeadOf (bytes : List ℕ) (head : HeadPlaces) : Type 0 where
  pub h : ResponseHead
  pub good : IsResponseHead h
  pub is : bytes ≡ print_response h
  pub few : length h.fields ≤ 100
  pub short : length bytes ≤ 65536
  pub taken : reply_answer h ≡ Whole (length bytes)
  pub places : head ≡ reply_places h

abbrev pub IsHeadOf : Part → List ℕ → HeadPlaces → Type 0
IsHeadOf Request bytes head = IsRequestHeadOf bytes head
IsHeadOf Reply bytes head = IsReplyHeadOf bytes head

-- interim heads, which a request doesn't have, and then a head and its body; `ended` says that no more bytes come
pub data IsUnit (part : Part) (head_request ended : Bool) : List ℕ → Type 0 where
  Interim : (front rest bytes : List ℕ) (head : HeadPlaces) → IsHeadOf part front head → is_interim head.status ≡ true → IsUnit part head_request ended rest
      → bytes ≡ front ++ rest → IsUnit part head_request ended bytes
  Final : (front body bytes : List ℕ) (head : HeadPlaces) → IsHeadOf part front head → is_interim head.status ≡ false → IsBody (rule_in head_request head.body) ended body
      → bytes ≡ front ++ body → IsUnit part head_request ended bytes

abbrev pub IsRequest : List ℕ → Type 0
IsRequest bytes = IsUnit Request false false bytes

abbrev pub IsReply : Bool → Bool → List ℕ → Type 0
IsReply head_request ended bytes = IsUnit Reply head_request ended bytes
