-- Heads that are whole, and what they tell.
use Rattle.std.specs.Prelude.{◌≡◌, ℕ, Bool, true, false, List, Result, Ok, Err}
use Rattle.httparse.specs.Grammar.{RequestHead, ReadsRequest, ResponseHead, ReadsResponse, status_code}
use Rattle.rd_base.specs.declared.values.Scan.{Scan}
use Rattle.rd_base.specs.declared.values.Scan.TheVariants.{Whole, More, Bad, TooBig, Unsupported}
use Rattle.rd_base.specs.declared.values.Part.{Part}
use Rattle.rd_http_frame.specs.declared.scan.WholeHead.{WholeHead}
use Rattle.rd_http_frame.specs.Heads.{IsHeadScan}
use Rattle.rd_http_frame.specs.Places.{HeadPlaces, IsHead, request_rule, reply_rule}

-- a head of so many bytes, with these places
pub record BeginsWith (part : Part) (bytes : List ℕ) (len : ℕ) (head : HeadPlaces) : Type 0 where
  pub whole : IsHeadScan part bytes (Whole len)
  pub places : IsHead part bytes head

abbrev pub is_whole : Scan → Bool
is_whole (Whole len) = true
is_whole More = false
is_whole Bad = false
is_whole TooBig = false
is_whole (Unsupported code) = false

-- what a head comes to that was found or wasn't
abbrev pub head_scan : Result WholeHead Scan → Scan
head_scan (Ok head) = Whole head.len
head_scan (Err scan) = scan

-- a whole head, or what the bytes come to without one
abbrev pub IsWholeHead : Part → List ℕ → Result WholeHead Scan → Type 0
IsWholeHead part bytes (Ok found) =
    (head : HeadPlaces) × BeginsWith part bytes found.len head × (found.status ≡ head.status) × (found.body ≡ head.body)
IsWholeHead part bytes (Err scan) = IsHeadScan part bytes scan × (is_whole scan ≡ false)

-- what a request head at the front tells
abbrev pub TellsRequest : List ℕ → Result WholeHead Scan → Type 0
TellsRequest bytes (Ok found) =
    (h : RequestHead) × (rest : List ℕ) × ReadsRequest bytes h rest × (found.status ≡ 0) × (found.body ≡ request_rule h)
TellsRequest bytes (Err scan) = is_whole scan ≡ false

-- what a reply head at the front tells
abbrev pub TellsReply : List ℕ → Result WholeHead Scan → Type 0
TellsReply bytes (Ok found) =
    (h : ResponseHead) × (rest : List ℕ) × ReadsResponse bytes h rest × (found.status ≡ status_code h) × (found.body ≡ reply_rule h)
TellsReply bytes (Err scan) = is_whole scan ≡ false

-- the same where the head is known
abbrev pub AnswersRequest : RequestHead → Result WholeHead Scan → Type 0
AnswersRequest h (Ok found) = (found.status ≡ 0) × (found.body ≡ request_rule h)
AnswersRequest h (Err scan) = is_whole scan ≡ false

abbrev pub AnswersReply : ResponseHead → Result WholeHead Scan → Type 0
AnswersReply h (Ok found) = (found.status ≡ status_code h) × (found.body ≡ reply_rule h)
AnswersReply h (Err scan) = is_whole scan ≡ false
