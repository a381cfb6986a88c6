-- What the bytes at the front of a request or of a reply come to, as its head. RFC 9112, sections 2 to 5,
-- as httparse's default grammar has it, with these bounds: 100 fields, and 65,536 bytes with the line
-- ends before the start line.
use Rattle.std.specs.Prelude.{◌≡◌, ℕ, ◌<◌, ◌≤◌, ◌⊎◌, ◌&&◌, ◌==◌, nat_le, if◌then◌else◌, false, List, length, take, map, codes, bytes_eq, is_some}
use Rattle.std.specs.List.{list_all}
use Rattle.httparse.specs.Grammar.{RequestHead, print_request, ReadsRequest, NeverHasRequest, ResponseHead, print_response, ReadsResponse, HasNoResponse, NeverHasResponse, MayBecomeResponse, status_code}
use Rattle.httparse.specs.Spans.{name_and_value}
use Rattle.rd_base.specs.declared.values.Scan.{Scan}
use Rattle.rd_base.specs.declared.values.Scan.TheVariants.{Whole, More, Bad, TooBig, Unsupported}
use Rattle.rd_base.specs.declared.values.Part.{Part}
use Rattle.rd_base.specs.declared.values.Part.TheVariants.{Request, Reply}
use Rattle.rd_http_frame.specs.Fronts.{head_feeds, most_bytes, is_target_byte, InTarget, NotInTarget, is_good_target, IsOpen}
use Rattle.rd_http_frame.specs.Fields.{framing_of}

-- A whole request head: a target of visible ASCII (RFC 9112, section 3.2; httparse lets UTF-8 pass), and
-- fields that leave no doubt about its body. CONNECT (RFC 9110, section 9.3.6) and TRACE (section 9.3.8)
-- are told apart
abbrev pub request_answer : RequestHead → Scan
request_answer h =
    if list_all is_target_byte h.target && is_some (framing_of h.minor (map name_and_value h.fields))
    then (if bytes_eq h.method (codes "CONNECT") then Unsupported 1
    else if bytes_eq h.method (codes "TRACE") then Unsupported 2
    else Whole (length (print_request h)))
    else Bad

-- A whole reply head. 101 (RFC 9110, section 15.2.2) is told apart
abbrev pub reply_answer : ResponseHead → Scan
reply_answer h =
    if is_some (framing_of h.minor (map name_and_value h.fields))
    then (if status_code h == 101 then Unsupported 101 else Whole (length (print_response h)))
    else Bad

-- bytes that aren't a head yet
abbrev pub unfinished : List ℕ → Scan
unfinished bytes = if nat_le most_bytes (length bytes) then TooBig else More

-- no head can come of it
abbrev pub IsHopeless : List ℕ → Type 0
IsHopeless bytes =
    (head_feeds bytes ≤ 101)
    × ((InTarget bytes × (is_good_target bytes ≡ false)) ⊎ (NotInTarget bytes × NeverHasRequest bytes))

-- of at most 65,536 bytes. More than 101 lines are a start line and more than 100 fields
pub data IsRequestScan (bytes : List ℕ) (scan : Scan) : Type 0 where
  ManyLines : 101 < head_feeds bytes → scan ≡ TooBig → IsRequestScan bytes scan
  Complete : head_feeds bytes ≤ 101 → (h : RequestHead) → (rest : List ℕ) → ReadsRequest bytes h rest → length h.fields ≤ 100 → scan ≡ request_answer h → IsRequestScan bytes scan
  Hopeless : IsHopeless bytes → scan ≡ Bad → IsRequestScan bytes scan
  Open : IsOpen bytes → scan ≡ unfinished bytes → IsRequestScan bytes scan

pub data IsReplyScan (bytes : List ℕ) (scan : Scan) : Type 0 where
  ManyLines : 101 < head_feeds bytes → scan ≡ TooBig → IsReplyScan bytes scan
  Complete : head_feeds bytes ≤ 101 → (h : ResponseHead) → (rest : List ℕ) → ReadsResponse bytes h rest → length h.fields ≤ 100 → scan ≡ reply_answer h → IsReplyScan bytes scan
  Hopeless : head_feeds bytes ≤ 101 → NeverHasResponse bytes → scan ≡ Bad → IsReplyScan bytes scan
  Open : head_feeds bytes ≤ 101 → HasNoResponse bytes → MayBecomeResponse bytes → scan ≡ unfinished bytes → IsReplyScan bytes scan

-- no more than these bytes are looked at
abbrev pub seen : List ℕ → List ℕ
seen bytes = take most_bytes bytes

abbrev pub IsHeadScan : Part → List ℕ → Scan → Type 0
IsHeadScan Request bytes scan = IsRequestScan (seen bytes) scan
IsHeadScan Reply bytes scan = IsReplyScan (seen bytes) scan
