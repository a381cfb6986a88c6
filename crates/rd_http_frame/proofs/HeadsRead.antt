-- What a head is read as, from what the parser answers.
use Rattle.std.proofs.Common.{◌≡◌, ℕ, ◌+◌, Bool, true, false, List, length, sym, refl, subst, if◌then◌else◌, nat_le}
use Rattle.std.specs.Prelude.{Option, Some, None, IfSome}
use Rattle.httparse.specs.Grammar.{RequestHead, ResponseHead, print_blank, status_code}
use Rattle.rd_base.specs.declared.values.Scan.TheVariants.{Whole, More, TooBig}
use Rattle.rd_base.specs.declared.values.Part.{Part}
use Rattle.rd_base.specs.declared.values.Part.TheVariants.{Request, Reply}
use Rattle.rd_http_frame.specs.declared.body.BodyRule.{BodyRule}
use Rattle.rd_http_frame.specs.declared.place.FieldSpan.{FieldSpan}
use Rattle.rd_http_frame.specs.Heads.{IsRequestScan, IsReplyScan, IsHeadScan, unfinished, seen}
use Rattle.rd_http_frame.specs.Heads.{IsRequestScan as request, IsReplyScan as reply}
use Rattle.rd_http_frame.specs.Places.{HeadPlaces, IsHead, IsRequestRead, IsReplyRead, request_places, reply_places, request_start, reply_start, request_rule, reply_rule, fields_at}

pub request_value : (m me te : ℕ) (spans : List FieldSpan) (body : BodyRule) (h : RequestHead) → m ≡ length (print_blank h.blank) → me ≡ length (print_blank h.blank) + length h.method
    → te ≡ length (print_blank h.blank) + length h.method + 1 + length h.target → spans ≡ fields_at (request_start h) h.fields → body ≡ request_rule h
    → record { method = record { start = m; end = me }; target = record { start = me + 1; end = te }; status = 0; spans = spans; body = body } ≡ request_places h
request_value m me te spans body h a b c d e = rw (a, b, c, d, e) refl

pub reply_value : (status : ℕ) (spans : List FieldSpan) (body : BodyRule) (h : ResponseHead) → status ≡ status_code h → spans ≡ fields_at (reply_start h) h.fields → body ≡ reply_rule h
    → record { method = record { start = 0; end = 0 }; target = record { start = 0; end = 0 }; status = status; spans = spans; body = body } ≡ reply_places h
reply_value status spans body h a b c = rw (a, b, c) refl

open_is_not_whole : (bytes : List ℕ) (len : ℕ) → Whole len ≡ unfinished bytes → ⊥
open_is_not_whole bytes len e = by (nat_le 65536 (length bytes)) e
  where
    by : (t : Bool) → Whole len ≡ (if t then TooBig else More) → ⊥
    by true f = absurd (cc f)
    by false f = absurd (cc f)

pub request_none : (bytes : List ℕ) (len : ℕ) → IsRequestRead bytes None → IsRequestScan bytes (Whole len) → ⊥
request_none bytes len none (request.ManyLines over e) = absurd (cc e)
request_none bytes len none (request.Complete fits h rest reads few e) = none h rest reads few
request_none bytes len none (request.Hopeless is e) = absurd (cc e)
request_none bytes len none (request.Open is e) = open_is_not_whole bytes len e

pub reply_none : (bytes : List ℕ) (len : ℕ) → IsReplyRead bytes None → IsReplyScan bytes (Whole len) → ⊥
reply_none bytes len none (reply.ManyLines over e) = absurd (cc e)
reply_none bytes len none (reply.Complete fits h rest reads few e) = none h rest reads few
reply_none bytes len none (reply.Hopeless fits never e) = absurd (cc e)
reply_none bytes len none (reply.Open fits nothing may e) = open_is_not_whole bytes len e

pub no_request : (part : Part) (bytes text : List ℕ) (read : Option HeadPlaces) (len : ℕ) → part ≡ Request → text ≡ seen bytes → IsRequestRead text read → read ≡ None → IsHeadScan part bytes (Whole len) → ⊥
no_request part bytes text read len is e made none scan =
    request_none (seen bytes) len (subst (λ (t : List ℕ). IsRequestRead t None) e (subst (λ (o : Option HeadPlaces). IsRequestRead text o) none made))
    (subst (λ (p : Part). IsHeadScan p bytes (Whole len)) is scan)

pub no_reply : (part : Part) (bytes text : List ℕ) (read : Option HeadPlaces) (len : ℕ) → part ≡ Reply → text ≡ seen bytes → IsReplyRead text read → read ≡ None → IsHeadScan part bytes (Whole len) → ⊥
no_reply part bytes text read len is e made none scan =
    reply_none (seen bytes) len (subst (λ (t : List ℕ). IsReplyRead t None) e (subst (λ (o : Option HeadPlaces). IsReplyRead text o) none made))
    (subst (λ (p : Part). IsHeadScan p bytes (Whole len)) is scan)

request_there : (bytes : List ℕ) (read : Option HeadPlaces) → IsRequestRead (seen bytes) read → IfSome read (λ head. IsHead Request bytes head)
request_there bytes (Some head) made = made
request_there bytes None made = tt

reply_there : (bytes : List ℕ) (read : Option HeadPlaces) → IsReplyRead (seen bytes) read → IfSome read (λ head. IsHead Reply bytes head)
reply_there bytes (Some head) made = made
reply_there bytes None made = tt

pub is_request : (part : Part) (bytes text : List ℕ) (read : Option HeadPlaces) → part ≡ Request → text ≡ seen bytes → IsRequestRead text read → IfSome read (λ head. IsHead part bytes head)
is_request part bytes text read is e made =
    subst (λ (p : Part). IfSome read (λ head. IsHead p bytes head)) (sym is) (request_there bytes read (subst (λ (t : List ℕ). IsRequestRead t read) e made))

pub is_reply : (part : Part) (bytes text : List ℕ) (read : Option HeadPlaces) → part ≡ Reply → text ≡ seen bytes → IsReplyRead text read → IfSome read (λ head. IsHead part bytes head)
is_reply part bytes text read is e made =
    subst (λ (p : Part). IfSome read (λ head. IsHead p bytes head)) (sym is) (reply_there bytes read (subst (λ (t : List ℕ). IsReplyRead t read) e made))
