-- What bytes come to as a request, or as the reply to one: RFC 9112, sections 2.1, 6 and 7.1, and RFC 9110,
-- section 15.2.
use Rattle.std.specs.Prelude.{◌≡◌, ℕ, ◌+◌, ◌&&◌, nat_le, nat_lt, Bool, true, false, if◌then◌else◌, List, length, drop, Result, Ok, Err}
use Rattle.rd_base.specs.Scans.{behind}
use Rattle.rd_base.specs.declared.values.Scan.{Scan}
use Rattle.rd_base.specs.declared.values.Scan.TheVariants.{Whole, More}
use Rattle.rd_base.specs.declared.values.Part.{Part}
use Rattle.rd_base.specs.declared.values.Part.TheVariants.{Request, Reply}
use Rattle.rd_http_frame.specs.declared.body.BodyRule.{BodyRule}
use Rattle.rd_http_frame.specs.declared.body.BodyRule.TheVariants.{Empty, Length, Chunked, UntilEnd}
use Rattle.rd_http_frame.specs.declared.unit.FinalHead.{FinalHead}
use Rattle.rd_http_frame.specs.Heads.{IsHeadScan}
use Rattle.rd_http_frame.specs.Places.{HeadPlaces}
use Rattle.rd_http_frame.specs.WholeHeads.{BeginsWith, is_whole}
use Rattle.rd_http_frame.specs.Chunks.{trailer_from}
use Rattle.rd_http_frame.specs.Trailers.{IsTrailerScan}

-- a reply of status 100 to 199 is interim: RFC 9110, section 15.2. A request's status is 0
abbrev pub is_interim : ℕ → Bool
is_interim status = nat_le 100 status && nat_lt status 200

-- so many bytes before
abbrev pub head_behind : ℕ → Result FinalHead Scan → Result FinalHead Scan
head_behind before (Ok head) = Ok (record { from = before + head.from; to = before + head.to; body = head.body })
head_behind before (Err scan) = Err scan

-- where the final head is, behind any number of interim ones, or what the bytes come to without it
pub data IsFinalHead (part : Part) : List ℕ → Result FinalHead Scan → Type 0 where
  Missing : (bytes : List ℕ) (scan : Scan) (found : Result FinalHead Scan)
      → IsHeadScan part bytes scan → is_whole scan ≡ false → found ≡ Err scan → IsFinalHead part bytes found
  Interim : (bytes : List ℕ) (len : ℕ) (head : HeadPlaces) (later found : Result FinalHead Scan)
      → BeginsWith part bytes len head → is_interim head.status ≡ true → IsFinalHead part (drop len bytes) later → found ≡ head_behind len later → IsFinalHead part bytes found
  Final : (bytes : List ℕ) (len : ℕ) (head : HeadPlaces) (found : Result FinalHead Scan)
      → BeginsWith part bytes len head → is_interim head.status ≡ false → found ≡ Ok (record { from = 0; to = len; body = head.body }) → IsFinalHead part bytes found

-- chunks, and a trailer behind the last size line
abbrev pub IsTrailerBehind : List ℕ → Result ℕ Scan → Scan → Type 0
IsTrailerBehind bytes (Ok at) scan = (trailer : Scan) × IsTrailerScan (drop at bytes) trailer × (scan ≡ behind at trailer)
IsTrailerBehind bytes (Err stop) scan = scan ≡ stop

-- what the bytes behind a head come to, as its body
abbrev pub IsBodyScan : BodyRule → Bool → List ℕ → Scan → Type 0
IsBodyScan Empty ended bytes scan = scan ≡ Whole 0
IsBodyScan (Length size) ended bytes scan = scan ≡ (if nat_le size (length bytes) then Whole size else More)
IsBodyScan Chunked ended bytes scan = IsTrailerBehind bytes (trailer_from bytes) scan
IsBodyScan UntilEnd ended bytes scan = scan ≡ (if ended then Whole (length bytes) else More)

-- a reply to HEAD has no body, whatever its fields say: RFC 9112, section 6.3, case 1
abbrev pub rule_in : Bool → BodyRule → BodyRule
rule_in head_request rule = if head_request then Empty else rule

-- what follows the final head
abbrev pub IsScanBehind : Bool → Bool → List ℕ → Result FinalHead Scan → Scan → Type 0
IsScanBehind head_request ended bytes (Ok head) scan =
    (body : Scan) × IsBodyScan (rule_in head_request head.body) ended (drop head.to bytes) body × (scan ≡ behind head.to body)
IsScanBehind head_request ended bytes (Err stop) scan = scan ≡ stop

-- a final head and its body; `ended` says that no more bytes come
abbrev pub IsUnitScan : Part → Bool → Bool → List ℕ → Scan → Type 0
IsUnitScan part head_request ended bytes scan =
    (found : Result FinalHead Scan) × IsFinalHead part bytes found × IsScanBehind head_request ended bytes found scan

-- a request
abbrev pub IsWholeRequestScan : List ℕ → Scan → Type 0
IsWholeRequestScan bytes scan = IsUnitScan Request false false bytes scan

-- a reply, to HEAD or to another request
abbrev pub IsWholeReplyScan : Bool → Bool → List ℕ → Scan → Type 0
IsWholeReplyScan head_request ended bytes scan = IsUnitScan Reply head_request ended bytes scan

-- the final head begins here
abbrev pub IsShownFrom : List ℕ → ℕ → Type 0
IsShownFrom reply at = (head : FinalHead) × IsFinalHead Reply reply (Ok head) × (at ≡ head.from)
