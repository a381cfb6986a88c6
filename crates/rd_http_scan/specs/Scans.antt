-- The scan of bytes as a head, a trailer and a unit, as a function of the bytes. That it is the one answer of
-- its definition comes with it.
use Rattle.std.proofs.Common.{◌≡◌, ℕ, zero, suc, ◌<◌, ◌≤◌, Bool, true, false, List, ◌++◌, length, drop, length-drop, refl, sym, ap, ◌∙◌, arith, append_assoc, inl, inr, ◌⊎◌, nat_le, if◌then◌else◌}
use Rattle.std.specs.Prelude.{Result, Ok, Err}
use Rattle.std.specs.List.{flat_map}
use Rattle.std.proofs.lemmas.Bool.{cases_lt}
use Rattle.httparse.specs.Grammar.{print_end, Field, print_field, LineEnd, print_section, ReadsSection, RequestHead, ReadsRequest, ResponseHead, ReadsResponse}
use Rattle.httparse.proofs.HeadLemmas.{section_not_yet, section_never}
use Rattle.httparse.proofs.OpenLemmas.{section_may}
use Rattle.httparse.specs.Pieces.{Section}
use Rattle.rd_base.specs.Scans.{behind}
use Rattle.rd_base.specs.declared.values.Scan.{Scan}
use Rattle.rd_base.specs.declared.values.Scan.TheVariants.{Whole, More, Bad, TooBig, Unsupported}
use Rattle.rd_base.specs.declared.values.Part.{Part}
use Rattle.rd_base.specs.declared.values.Part.TheVariants.{Request, Reply}
use Rattle.rd_http_frame.specs.declared.body.BodyRule.{BodyRule}
use Rattle.rd_http_frame.specs.declared.body.BodyRule.TheVariants.{Empty, Length, Chunked, UntilEnd}
use Rattle.rd_http_frame.specs.declared.unit.FinalHead.{FinalHead}
use Rattle.rd_http_frame.specs.Fronts.{head_feeds, line_feeds, fresh, is_in_target, after_front, is_good_target}
use Rattle.rd_http_frame.specs.Heads.{IsRequestScan, IsReplyScan, IsHeadScan, request_answer, reply_answer, unfinished, seen}
use Rattle.rd_http_frame.specs.Heads.{IsRequestScan as request, IsReplyScan as reply}
use Rattle.rd_http_frame.specs.Places.{HeadPlaces, request_places, reply_places}
use Rattle.rd_http_frame.specs.Trailers.{IsSectionScan, trailer_feeds}
use Rattle.rd_http_frame.specs.Trailers.{IsSectionScan as section}
use Rattle.rd_http_frame.specs.WholeHeads.{BeginsWith}
use Rattle.rd_http_frame.specs.Chunks.{trailer_from}
use Rattle.rd_http_frame.specs.Units.{is_interim, IsFinalHead, head_behind, IsTrailerBehind, IsBodyScan, rule_in, IsScanBehind, IsUnitScan}
use Rattle.rd_http_frame.specs.Units.{IsFinalHead as final}
use Rattle.rd_http_frame.specs.Flats.{answers_head, flat_behind, IsFlat}
use Rattle.rd_http_frame.proofs.HeadLines.{head_is_past_target, open_by_partial, feeds-body, feeds-fields, printed}
use Rattle.rd_http_frame.proofs.Replies.{feeds-reply_body, reply_printed}
use Rattle.rd_http_frame.proofs.HeadCuts.{whole_request, whole_reply}
use Rattle.rd_http_frame.proofs.WholeHeads.{begins_fits}
use Rattle.rd_http_scan.specs.Reading.{Reading}
use Rattle.rd_http_scan.specs.Reading.Reading.{Reads, Open, Wrong}
use Rattle.rd_http_scan.specs.Lines.{section_reading}
use Rattle.rd_http_scan.specs.Outcomes.{RequestReading, request_reading, ReplyReading, reply_reading}
use Rattle.rd_http_scan.specs.Outcomes.{RequestReading as of_request, ReplyReading as of_reply}
use Rattle.std.proofs.lemmas.Bool.{false≢true}

-- ---- heads

request_fits : (bytes : List ℕ) (h : RequestHead) (rest : List ℕ) → ReadsRequest bytes h rest → head_feeds bytes ≤ 101 → length h.fields ≤ 100
request_fits bytes h rest x fits = omega (arith, fits, feeds-body bytes h (print_end h.last ++ rest) x.0 (x.1 ∙ printed h rest))

reply_fits : (bytes : List ℕ) (h : ResponseHead) (rest : List ℕ) → ReadsResponse bytes h rest → head_feeds bytes ≤ 101 → length h.fields ≤ 100
reply_fits bytes h rest x fits = omega (arith, fits, feeds-reply_body bytes h (print_end h.last ++ rest) x.0 (x.1 ∙ reply_printed h rest))

request_scanned : (bytes : List ℕ) → (scan : Scan) × IsRequestScan bytes scan
request_scanned bytes = by (cases_lt 101 (head_feeds bytes))
  where
    past : head_feeds bytes ≤ 101 → is_in_target (after_front bytes) ≡ false → RequestReading bytes → (scan : Scan) × IsRequestScan bytes scan
    past fits outside (of_request.Found h rest x) = (request_answer h, request.Complete fits h rest x (request_fits bytes h rest x fits) refl)
    past fits outside (of_request.Unfinished none may) = (unfinished bytes, request.Open (fits, none, inr (outside, open_by_partial bytes outside may)) refl)
    past fits outside (of_request.Refused never) = (Bad, request.Hopeless (fits, inr (outside, never)) refl)

    inside : head_feeds bytes ≤ 101 → is_in_target (after_front bytes) ≡ true → (t : Bool) → is_good_target bytes ≡ t → (scan : Scan) × IsRequestScan bytes scan
    inside fits here true good = (unfinished bytes, request.Open (fits, (λ h rest x. false≢true (sym (head_is_past_target bytes h rest x) ∙ here)), inl (here, good)) refl)
    inside fits here false bad = (Bad, request.Hopeless (fits, inl (here, bad)) refl)

    at : head_feeds bytes ≤ 101 → (t : Bool) → is_in_target (after_front bytes) ≡ t → (scan : Scan) × IsRequestScan bytes scan
    at fits true here = inside fits here (is_good_target bytes) refl
    at fits false out = past fits out (request_reading bytes)

    by : (101 < head_feeds bytes) ⊎ (head_feeds bytes ≤ 101) → (scan : Scan) × IsRequestScan bytes scan
    by (inl over) = (TooBig, request.ManyLines over refl)
    by (inr fits) = at fits (is_in_target (after_front bytes)) refl

reply_scanned : (bytes : List ℕ) → (scan : Scan) × IsReplyScan bytes scan
reply_scanned bytes = by (cases_lt 101 (head_feeds bytes))
  where
    at : head_feeds bytes ≤ 101 → ReplyReading bytes → (scan : Scan) × IsReplyScan bytes scan
    at fits (of_reply.Found h rest x) = (reply_answer h, reply.Complete fits h rest x (reply_fits bytes h rest x fits) refl)
    at fits (of_reply.Unfinished none may) = (unfinished bytes, reply.Open fits none may refl)
    at fits (of_reply.Refused never) = (Bad, reply.Hopeless fits never refl)

    by : (101 < head_feeds bytes) ⊎ (head_feeds bytes ≤ 101) → (scan : Scan) × IsReplyScan bytes scan
    by (inl over) = (TooBig, reply.ManyLines over refl)
    by (inr fits) = at fits (reply_reading bytes)

head_scanned : (part : Part) (bytes : List ℕ) → (scan : Scan) × IsHeadScan part bytes scan
head_scanned Request bytes = request_scanned (seen bytes)
head_scanned Reply bytes = reply_scanned (seen bytes)

-- what the bytes come to as a head
pub head_scan : Part → List ℕ → Scan
head_scan part bytes = (head_scanned part bytes).0

pub head_scan_is : (part : Part) (bytes : List ℕ) → IsHeadScan part bytes (head_scan part bytes)
unfolding head_scan
head_scan_is part bytes = (head_scanned part bytes).1

-- ---- final heads

head_there : (part : Part) (bytes : List ℕ) (len : ℕ) → IsHeadScan part bytes (Whole len) → (head : HeadPlaces) × BeginsWith part bytes len head
head_there Request bytes len scan = let w = whole_request (seen bytes) len scan in (request_places w.h, record { whole = scan; places = (w.h, w.rest, w.reads, refl) })
head_there Reply bytes len scan = let w = whole_reply (seen bytes) len scan in (reply_places w.h, record { whole = scan; places = (w.h, w.rest, w.reads, refl) })

final_by : (most : ℕ) (part : Part) (bytes : List ℕ) → length bytes ≤ most → (found : Result FinalHead Scan) × IsFinalHead part bytes found
final_by zero part bytes fits = by (head_scanned part bytes)
  where
    by : (scan : Scan) × IsHeadScan part bytes scan → (found : Result FinalHead Scan) × IsFinalHead part bytes found
    by (Whole len, is) = let b = begins_fits part bytes len (head_there part bytes len is).0 (head_there part bytes len is).1 in absurd (omega (arith, fits, b.0, b.1))
    by (More, is) = (Err More, final.Missing bytes More (Err More) is refl refl)
    by (Bad, is) = (Err Bad, final.Missing bytes Bad (Err Bad) is refl refl)
    by (TooBig, is) = (Err TooBig, final.Missing bytes TooBig (Err TooBig) is refl refl)
    by (Unsupported code, is) = (Err (Unsupported code), final.Missing bytes (Unsupported code) (Err (Unsupported code)) is refl refl)
final_by (suc most) part bytes fits = by (λ rest. final_by most part rest) (head_scanned part bytes)
  where
    whole : ((rest : List ℕ) → length rest ≤ most → (found : Result FinalHead Scan) × IsFinalHead part rest found)
        → (len : ℕ) (head : HeadPlaces) → BeginsWith part bytes len head → (t : Bool) → is_interim head.status ≡ t → (found : Result FinalHead Scan) × IsFinalHead part bytes found
    whole further len head x true e =
        let b = begins_fits part bytes len head x in
        let later = further (drop len bytes) (omega (arith, fits, b.0, b.1, length-drop len bytes)) in
        (head_behind len later.0, final.Interim bytes len head later.0 (head_behind len later.0) x e later.1 refl)
    whole further len head x false e = (Ok (record { from = 0; to = len; body = head.body }), final.Final bytes len head (Ok (record { from = 0; to = len; body = head.body })) x e refl)

    by : ((rest : List ℕ) → length rest ≤ most → (found : Result FinalHead Scan) × IsFinalHead part rest found)
        → (scan : Scan) × IsHeadScan part bytes scan → (found : Result FinalHead Scan) × IsFinalHead part bytes found
    by further (Whole len, is) = let there = head_there part bytes len is in whole further len there.0 there.1 (is_interim there.0.status) refl
    by further (More, is) = (Err More, final.Missing bytes More (Err More) is refl refl)
    by further (Bad, is) = (Err Bad, final.Missing bytes Bad (Err Bad) is refl refl)
    by further (TooBig, is) = (Err TooBig, final.Missing bytes TooBig (Err TooBig) is refl refl)
    by further (Unsupported code, is) = (Err (Unsupported code), final.Missing bytes (Unsupported code) (Err (Unsupported code)) is refl refl)

-- the final head, or what the bytes come to without it
pub final_head : Part → List ℕ → Result FinalHead Scan
final_head part bytes = (final_by (length bytes) part bytes (omega arith)).0

pub final_head_is : (part : Part) (bytes : List ℕ) → IsFinalHead part bytes (final_head part bytes)
unfolding final_head
final_head_is part bytes = (final_by (length bytes) part bytes (omega arith)).1

-- ---- trailers and bodies

section_fits : (bytes : List ℕ) (fields : List Field) (last : LineEnd) (rest : List ℕ) → ReadsSection bytes fields last rest → trailer_feeds bytes ≤ 100 → length fields ≤ 100
section_fits bytes fields last rest x fits =
    omega (arith, fits, ap (λ (t : List ℕ). line_feeds fresh t) (x.1 ∙ append_assoc (flat_map print_field fields) (print_end last) rest), feeds-fields fields (print_end last ++ rest) x.0)

section_scanned : (bytes : List ℕ) → (scan : Scan) × IsSectionScan bytes scan
section_scanned bytes = by (cases_lt 100 (trailer_feeds bytes))
  where
    at : trailer_feeds bytes ≤ 100 → Reading Section bytes → (scan : Scan) × IsSectionScan bytes scan
    at fits (Reads s rest x) = (Whole (length (print_section s.0 s.1)), section.Complete fits s.0 s.1 rest x (section_fits bytes s.0 s.1 rest x fits) refl)
    at fits (Open none may) = (unfinished bytes, section.Open fits (section_not_yet none) (section_may may) refl)
    at fits (Wrong none) = (Bad, section.Hopeless fits (section_never none) refl)

    by : (100 < trailer_feeds bytes) ⊎ (trailer_feeds bytes ≤ 100) → (scan : Scan) × IsSectionScan bytes scan
    by (inl over) = (TooBig, section.ManyLines over refl)
    by (inr fits) = at fits (section_reading bytes)

chunked_scanned : (bytes : List ℕ) (from : Result ℕ Scan) → (scan : Scan) × IsTrailerBehind bytes from scan
chunked_scanned bytes (Ok at) = let trailer = section_scanned (seen (drop at bytes)) in (behind at trailer.0, (trailer.0, trailer.1, refl))
chunked_scanned bytes (Err stop) = (stop, refl)

body_scanned : (rule : BodyRule) (ended : Bool) (bytes : List ℕ) → (scan : Scan) × IsBodyScan rule ended bytes scan
body_scanned Empty ended bytes = (Whole 0, refl)
body_scanned (Length size) ended bytes = ((if nat_le size (length bytes) then Whole size else More), refl)
body_scanned Chunked ended bytes = chunked_scanned bytes (trailer_from bytes)
body_scanned UntilEnd ended bytes = ((if ended then Whole (length bytes) else More), refl)

-- ---- units

scanned_behind : (head_request ended : Bool) (bytes : List ℕ) (found : Result FinalHead Scan) → (scan : Scan) × IsScanBehind head_request ended bytes found scan
scanned_behind head_request ended bytes (Ok head) =
    let body = body_scanned (rule_in head_request head.body) ended (drop head.to bytes) in (behind head.to body.0, (body.0, body.1, refl))
scanned_behind head_request ended bytes (Err stop) = (stop, refl)

-- what the bytes come to as a request or a reply
pub unit_scan : Part → Bool → Bool → List ℕ → Scan
unit_scan part head_request ended bytes = (scanned_behind head_request ended bytes (final_head part bytes)).0

pub unit_scan_is : (part : Part) (head_request ended : Bool) (bytes : List ℕ) → IsUnitScan part head_request ended bytes (unit_scan part head_request ended bytes)
unfolding unit_scan
unit_scan_is part head_request ended bytes = (final_head part bytes, final_head_is part bytes, (scanned_behind head_request ended bytes (final_head part bytes)).1)

-- the flat form of a whole unit, or of a part of one
pub flat_form : Part → Bool → List ℕ → Bool → List ℕ
flat_form part head_request bytes whole = flat_behind (answers_head part head_request) bytes whole (final_head part bytes)

pub flat_form_is : (part : Part) (head_request : Bool) (bytes : List ℕ) (whole : Bool) → IsFlat part head_request bytes whole (flat_form part head_request bytes whole)
unfolding flat_form
flat_form_is part head_request bytes whole = (final_head part bytes, final_head_is part bytes, refl)

-- of a request it isn't looked at whether a reply answers a HEAD
pub flat_form_of_request : (one other : Bool) (bytes : List ℕ) (whole : Bool) → flat_form Request one bytes whole ≡ flat_form Request other bytes whole
unfolding flat_form
flat_form_of_request one other bytes whole = refl
