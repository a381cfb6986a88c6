-- What is found of a head is what the definitions say.
use Rattle.std.specs.Prelude.{IfOk}
use Rattle.std.proofs.Common.{◌≡◌, ℕ, ◌<◌, ◌≤◌, Bool, true, false, List, length, if◌then◌else◌, nat_le, Result, Ok, Err, refl, sym, subst}
use Rattle.httparse.specs.Grammar.{RequestHead, ReadsRequest, ResponseHead, ReadsResponse}
use Rattle.rd_base.specs.declared.values.Scan.{Scan}
use Rattle.rd_base.specs.declared.values.Scan.TheVariants.{More, TooBig}
use Rattle.rd_base.specs.declared.values.Part.{Part}
use Rattle.rd_base.specs.declared.values.Part.TheVariants.{Request, Reply}
use Rattle.rd_http_frame.specs.declared.scan.WholeHead.{WholeHead}
use Rattle.rd_http_frame.specs.Heads.{IsHeadScan, IsRequestScan, IsReplyScan, seen, unfinished}
use Rattle.rd_http_frame.specs.Places.{HeadPlaces, request_places, reply_places}
use Rattle.rd_http_frame.specs.WholeHeads.{BeginsWith, is_whole, head_scan, IsWholeHead, TellsRequest, TellsReply, AnswersRequest, AnswersReply}
use Rattle.rd_http_frame.proofs.HeadCuts.{head_framing}

pub tells_request : (bytes : List ℕ) (h : RequestHead) (rest : List ℕ) → ReadsRequest bytes h rest → (found : Result WholeHead Scan) → AnswersRequest h found → TellsRequest bytes found
tells_request bytes h rest reads (Ok found) a = (h, rest, reads, a.0, a.1)
tells_request bytes h rest reads (Err scan) a = a

pub tells_reply : (bytes : List ℕ) (h : ResponseHead) (rest : List ℕ) → ReadsResponse bytes h rest → (found : Result WholeHead Scan) → AnswersReply h found → TellsReply bytes found
tells_reply bytes h rest reads (Ok found) a = (h, rest, reads, a.0, a.1)
tells_reply bytes h rest reads (Err scan) a = a

found_request : (bytes : List ℕ) (found : Result WholeHead Scan) → IsRequestScan (seen bytes) (head_scan found) → TellsRequest (seen bytes) found → IsWholeHead Request bytes found
found_request bytes (Ok found) scan tells =
    (request_places tells.0, record { whole = scan; places = (tells.0, tells.1, tells.2, refl) }, tells.3, tells.4)
found_request bytes (Err s) scan tells = (scan, tells)

found_reply : (bytes : List ℕ) (found : Result WholeHead Scan) → IsReplyScan (seen bytes) (head_scan found) → TellsReply (seen bytes) found → IsWholeHead Reply bytes found
found_reply bytes (Ok found) scan tells =
    (reply_places tells.0, record { whole = scan; places = (tells.0, tells.1, tells.2, refl) }, tells.3, tells.4)
found_reply bytes (Err s) scan tells = (scan, tells)

pub whole_request : (part : Part) (bytes text : List ℕ) (found : Result WholeHead Scan) → part ≡ Request → text ≡ seen bytes → IsRequestScan text (head_scan found) → TellsRequest text found → IsWholeHead part bytes found
whole_request part bytes text found is e scan tells =
    subst (λ (p : Part). IsWholeHead p bytes found) (sym is)
    (found_request bytes found (subst (λ (t : List ℕ). IsRequestScan t (head_scan found)) e scan) (subst (λ (t : List ℕ). TellsRequest t found) e tells))

pub whole_reply : (part : Part) (bytes text : List ℕ) (found : Result WholeHead Scan) → part ≡ Reply → text ≡ seen bytes → IsReplyScan text (head_scan found) → TellsReply text found → IsWholeHead part bytes found
whole_reply part bytes text found is e scan tells =
    subst (λ (p : Part). IsWholeHead p bytes found) (sym is)
    (found_reply bytes found (subst (λ (t : List ℕ). IsReplyScan t (head_scan found)) e scan) (subst (λ (t : List ℕ). TellsReply t found) e tells))

pub scanned : (part : Part) (bytes : List ℕ) (found : Result WholeHead Scan) → IsWholeHead part bytes found → IsHeadScan part bytes (head_scan found)
scanned part bytes (Ok found) x = x.1.whole
scanned part bytes (Err scan) x = x.0

pub unfinished_open : (bytes : List ℕ) → is_whole (unfinished bytes) ≡ false
unfinished_open bytes = by (nat_le 65536 (length bytes))
  where
    by : (t : Bool) → is_whole (if t then TooBig else More) ≡ false
    by true = refl
    by false = refl

-- a head has bytes, and they are there
pub begins_fits : (part : Part) (bytes : List ℕ) (len : ℕ) (head : HeadPlaces) → BeginsWith part bytes len head → (0 < len) × (len ≤ length bytes)
begins_fits part bytes len head x = ((head_framing part).some_bytes bytes len x.whole, (head_framing part).within bytes len x.whole)

pub found_some : (part : Part) (bytes : List ℕ) (found : Result WholeHead Scan) → IsWholeHead part bytes found → IfOk found (λ h. 0 < h.len)
found_some part bytes (Ok found) x = (begins_fits part bytes found.len x.0 x.1).0
found_some part bytes (Err scan) x = tt

pub found_within : (part : Part) (bytes : List ℕ) (found : Result WholeHead Scan) → IsWholeHead part bytes found → IfOk found (λ h. h.len ≤ length bytes)
found_within part bytes (Ok found) x = (begins_fits part bytes found.len x.0 x.1).1
found_within part bytes (Err scan) x = tt
