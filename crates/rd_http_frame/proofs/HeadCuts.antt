-- Heads are cut in one way.
use Rattle.std.proofs.Common.{◌≡◌, ℕ, zero, suc, ◌+◌, ◌<◌, ◌≤◌, Bool, true, false, List, [], ◌∷◌, ◌++◌, length, take, drop, map, ap, sym, ◌∙◌, refl, subst, arith, append_assoc, append-nil, length-append, length-take, if◌then◌else◌, ◌&&◌, ◌==◌, nat_le, codes}
use Rattle.std.specs.Prelude.{bytes_eq, is_some}
use Rattle.std.specs.List.{list_all}
use Rattle.std.proofs.lemmas.List.{take_all, take-append-drop}
use Rattle.std.proofs.Math.Seq.{take-append_seam}
use Rattle.httparse.specs.Grammar.{LineEnd, crlf, lf, print_end, RequestHead, print_request, ReadsRequest, ResponseHead, print_response, ReadsResponse, status_code}
use Rattle.httparse.specs.Spans.{name_and_value}
use Rattle.rd_base.specs.declared.values.Scan.{Scan}
use Rattle.rd_base.specs.declared.values.Scan.TheVariants.{Whole, More, Bad, TooBig, Unsupported}
use Rattle.rd_http_frame.specs.Fronts.{line_feeds, fresh, head_feeds, is_target_byte}
use Rattle.rd_http_frame.specs.Fields.{framing_of}
use Rattle.rd_http_frame.specs.Heads.{IsRequestScan, IsReplyScan, request_answer, reply_answer, unfinished, seen}
use Rattle.rd_http_frame.specs.Heads.{IsRequestScan as request, IsReplyScan as reply}
use Rattle.std.proofs.Common.{inl, inr}
use Rattle.std.proofs.lemmas.Bool.{false≢true}
use Rattle.httparse.proofs.GrammarLemmas.{request_prefix_free, response_prefix_free}
use Rattle.rd_base.specs.declared.values.Part.{Part}
use Rattle.rd_base.specs.declared.values.Part.TheVariants.{Request, Reply}
use Rattle.rd_http_frame.specs.HeadLaws.{IsHeadFraming}
use Rattle.rd_http_frame.proofs.HeadLines.{printed, feeds-body, body}
use Rattle.rd_http_frame.proofs.TargetCuts.{target_good}
use Rattle.rd_http_frame.proofs.Replies.{reply_printed, feeds-reply_body, reply_body}

pub take_cut : (n : ℕ) (xs ys : List ℕ) → (r : List ℕ) × (take n (xs ++ ys) ≡ take n xs ++ r)
take_cut zero xs ys = ([], refl)
take_cut (suc n) [] ys = (take (suc n) ys, refl)
take_cut (suc n) (x ∷ xs) ys = let z = take_cut n xs ys in (z.0, ap (λ (t : List ℕ). x ∷ t) z.1)

-- what is seen of more bytes begins with what was seen
pub seen_more : (bytes more : List ℕ) → (r : List ℕ) × (seen (bytes ++ more) ≡ seen bytes ++ r)
seen_more bytes more = take_cut 65536 bytes more

-- the bytes of a head at the front of what is seen
pub front_taken : (bytes p rest : List ℕ) → seen bytes ≡ p ++ rest → take (length p) bytes ≡ p
front_taken bytes p rest e =
    let all : bytes ≡ p ++ (rest ++ drop 65536 bytes) = sym (take-append-drop 65536 bytes) ∙ ap (λ (t : List ℕ). t ++ drop 65536 bytes) e ∙ append_assoc p rest (drop 65536 bytes) in
    ap (λ (t : List ℕ). take (length p) t) all ∙ take-append_seam p (rest ++ drop 65536 bytes)

pub front_small : (bytes p rest : List ℕ) → seen bytes ≡ p ++ rest → (length p ≤ 65536) × (length p ≤ length bytes)
front_small bytes p rest e =
    let size : length (seen bytes) ≡ length p + length rest = ap (λ (t : List ℕ). length t) e ∙ length-append p rest in
    (omega (arith, size, length-take 65536 bytes), omega (arith, size, length-take 65536 bytes))

pub seen_itself : (bytes p rest : List ℕ) → seen bytes ≡ p ++ rest → seen (take (length p) bytes) ≡ p
seen_itself bytes p rest e = ap (λ (t : List ℕ). seen t) (front_taken bytes p rest e) ∙ take_all 65536 p (front_small bytes p rest e).0

pub last_feeds : (e : LineEnd) (rest : List ℕ) → line_feeds fresh (print_end e ++ rest) ≡ 0
last_feeds crlf rest = refl
last_feeds lf rest = refl

some_end : (e : LineEnd) → 0 < length (print_end e)
some_end crlf = omega arith
some_end lf = omega arith

pub not_unfinished : (bytes : List ℕ) (len : ℕ) → Whole len ≡ unfinished bytes → ⊥
not_unfinished bytes len e = by (nat_le 65536 (length bytes)) e
  where
    by : (t : Bool) → Whole len ≡ (if t then TooBig else More) → ⊥
    by true f = absurd (cc f)
    by false f = absurd (cc f)

-- ---- requests

pub record WholeRequest (buf : List ℕ) (len : ℕ) : Type 0 where
  pub h : RequestHead
  pub rest : List ℕ
  pub reads : ReadsRequest buf h rest
  pub few : length h.fields ≤ 100
  pub answer : Whole len ≡ request_answer h

pub whole_request : (buf : List ℕ) (len : ℕ) → IsRequestScan buf (Whole len) → WholeRequest buf len
whole_request buf len (request.ManyLines over e) = absurd (cc e)
whole_request buf len (request.Complete fits h rest reads few e) = record { h = h; rest = rest; reads = reads; few = few; answer = e }
whole_request buf len (request.Hopeless is e) = absurd (cc e)
whole_request buf len (request.Open is e) = absurd (not_unfinished buf len e)

pub request_len : (h : RequestHead) (len : ℕ) → Whole len ≡ request_answer h → len ≡ length (print_request h)
request_len h len e =
    by (list_all is_target_byte h.target && is_some (framing_of h.minor (map name_and_value h.fields))) (bytes_eq h.method (codes "CONNECT")) (bytes_eq h.method (codes "TRACE")) (length (print_request h)) e
  where
    by : (good c t : Bool) (n : ℕ) → Whole len ≡ (if good then (if c then Unsupported 1 else if t then Unsupported 2 else Whole n) else Bad) → len ≡ n
    by true true t n f = absurd (cc f)
    by true false true n f = absurd (cc f)
    by true false false n f = cc f
    by false c t n f = absurd (cc f)

pub request_complete : (buf : List ℕ) (h : RequestHead) (rest : List ℕ) → ReadsRequest buf h rest → length h.fields ≤ 100 → IsRequestScan buf (request_answer h)
request_complete buf h rest reads few =
    let feeds : head_feeds buf ≡ suc (length h.fields + line_feeds fresh (print_end h.last ++ rest)) = feeds-body buf h (print_end h.last ++ rest) reads.0 (reads.1 ∙ printed h rest) in
    request.Complete (omega (arith, feeds, few, last_feeds h.last rest)) h rest reads few refl

request_again : (buf : List ℕ) (len : ℕ) (w : WholeRequest buf len) (text rest : List ℕ) → text ≡ print_request w.h ++ rest → IsRequestScan text (Whole len)
request_again buf len w text rest e =
    subst (λ (s : Scan). IsRequestScan text s) (sym w.answer) (request_complete text w.h rest (w.reads.0, e) w.few)

pub request_some : (bytes : List ℕ) (len : ℕ) → IsRequestScan (seen bytes) (Whole len) → 0 < len
request_some bytes len scan =
    let w = whole_request (seen bytes) len scan in
    let size : length (print_request w.h ++ []) ≡ length (body w.h) + length (print_end w.h.last ++ []) = ap (λ (t : List ℕ). length t) (printed w.h []) ∙ length-append (body w.h) (print_end w.h.last ++ []) in
    omega (arith, request_len w.h len w.answer, size, length-append (print_request w.h) [], length-append (print_end w.h.last) [], some_end w.h.last)

pub request_within : (bytes : List ℕ) (len : ℕ) → IsRequestScan (seen bytes) (Whole len) → len ≤ length bytes
request_within bytes len scan =
    let w = whole_request (seen bytes) len scan in
    omega (arith, request_len w.h len w.answer, (front_small bytes (print_request w.h) w.rest w.reads.1).1)

pub request_itself : (bytes : List ℕ) (len : ℕ) → IsRequestScan (seen bytes) (Whole len) → IsRequestScan (seen (take len bytes)) (Whole len)
request_itself bytes len scan =
    let w = whole_request (seen bytes) len scan in
    request_again (seen bytes) len w (seen (take len bytes)) []
    (ap (λ (n : ℕ). seen (take n bytes)) (request_len w.h len w.answer) ∙ seen_itself bytes (print_request w.h) w.rest w.reads.1 ∙ sym (append-nil (print_request w.h)))

pub request_stays : (bytes more : List ℕ) (len : ℕ) → IsRequestScan (seen bytes) (Whole len) → IsRequestScan (seen (bytes ++ more)) (Whole len)
request_stays bytes more len scan =
    let w = whole_request (seen bytes) len scan in
    let z = seen_more bytes more in
    request_again (seen bytes) len w (seen (bytes ++ more)) (w.rest ++ z.0)
    (z.1 ∙ ap (λ (t : List ℕ). t ++ z.0) w.reads.1 ∙ append_assoc (print_request w.h) w.rest z.0)

-- ---- replies

pub record WholeReply (buf : List ℕ) (len : ℕ) : Type 0 where
  pub h : ResponseHead
  pub rest : List ℕ
  pub reads : ReadsResponse buf h rest
  pub few : length h.fields ≤ 100
  pub answer : Whole len ≡ reply_answer h

pub whole_reply : (buf : List ℕ) (len : ℕ) → IsReplyScan buf (Whole len) → WholeReply buf len
whole_reply buf len (reply.ManyLines over e) = absurd (cc e)
whole_reply buf len (reply.Complete fits h rest reads few e) = record { h = h; rest = rest; reads = reads; few = few; answer = e }
whole_reply buf len (reply.Hopeless fits never e) = absurd (cc e)
whole_reply buf len (reply.Open fits nothing may e) = absurd (not_unfinished buf len e)

pub reply_len : (h : ResponseHead) (len : ℕ) → Whole len ≡ reply_answer h → len ≡ length (print_response h)
reply_len h len e = by (is_some (framing_of h.minor (map name_and_value h.fields))) (status_code h == 101) (length (print_response h)) e
  where
    by : (good c : Bool) (n : ℕ) → Whole len ≡ (if good then (if c then Unsupported 101 else Whole n) else Bad) → len ≡ n
    by true true n f = absurd (cc f)
    by true false n f = cc f
    by false c n f = absurd (cc f)

pub reply_complete : (buf : List ℕ) (h : ResponseHead) (rest : List ℕ) → ReadsResponse buf h rest → length h.fields ≤ 100 → IsReplyScan buf (reply_answer h)
reply_complete buf h rest reads few =
    let feeds : head_feeds buf ≡ suc (length h.fields + line_feeds fresh (print_end h.last ++ rest)) = feeds-reply_body buf h (print_end h.last ++ rest) reads.0 (reads.1 ∙ reply_printed h rest) in
    reply.Complete (omega (arith, feeds, few, last_feeds h.last rest)) h rest reads few refl

reply_again : (buf : List ℕ) (len : ℕ) (w : WholeReply buf len) (text rest : List ℕ) → text ≡ print_response w.h ++ rest → IsReplyScan text (Whole len)
reply_again buf len w text rest e =
    subst (λ (s : Scan). IsReplyScan text s) (sym w.answer) (reply_complete text w.h rest (w.reads.0, e) w.few)

pub reply_some : (bytes : List ℕ) (len : ℕ) → IsReplyScan (seen bytes) (Whole len) → 0 < len
reply_some bytes len scan =
    let w = whole_reply (seen bytes) len scan in
    let size : length (print_response w.h ++ []) ≡ length (reply_body w.h) + length (print_end w.h.last ++ []) = ap (λ (t : List ℕ). length t) (reply_printed w.h []) ∙ length-append (reply_body w.h) (print_end w.h.last ++ []) in
    omega (arith, reply_len w.h len w.answer, size, length-append (print_response w.h) [], length-append (print_end w.h.last) [], some_end w.h.last)

pub reply_within : (bytes : List ℕ) (len : ℕ) → IsReplyScan (seen bytes) (Whole len) → len ≤ length bytes
reply_within bytes len scan =
    let w = whole_reply (seen bytes) len scan in
    omega (arith, reply_len w.h len w.answer, (front_small bytes (print_response w.h) w.rest w.reads.1).1)

pub reply_itself : (bytes : List ℕ) (len : ℕ) → IsReplyScan (seen bytes) (Whole len) → IsReplyScan (seen (take len bytes)) (Whole len)
reply_itself bytes len scan =
    let w = whole_reply (seen bytes) len scan in
    reply_again (seen bytes) len w (seen (take len bytes)) []
    (ap (λ (n : ℕ). seen (take n bytes)) (reply_len w.h len w.answer) ∙ seen_itself bytes (print_response w.h) w.rest w.reads.1 ∙ sym (append-nil (print_response w.h)))

pub reply_stays : (bytes more : List ℕ) (len : ℕ) → IsReplyScan (seen bytes) (Whole len) → IsReplyScan (seen (bytes ++ more)) (Whole len)
reply_stays bytes more len scan =
    let w = whole_reply (seen bytes) len scan in
    let z = seen_more bytes more in
    reply_again (seen bytes) len w (seen (bytes ++ more)) (w.rest ++ z.0)
    (z.1 ∙ ap (λ (t : List ℕ). t ++ z.0) w.reads.1 ∙ append_assoc (print_response w.h) w.rest z.0)

-- ---- hopeless bytes

request_good : (h : RequestHead) (len : ℕ) → Whole len ≡ request_answer h → list_all is_target_byte h.target ≡ true
request_good h len e = by (list_all is_target_byte h.target) (is_some (framing_of h.minor (map name_and_value h.fields))) _ e
  where
    by : (good clear : Bool) (s : Scan) → Whole len ≡ (if good && clear then s else Bad) → good ≡ true
    by true clear s f = refl
    by false clear s f = absurd (cc f)

pub not_open : (bytes : List ℕ) → Bad ≡ unfinished bytes → ⊥
not_open bytes e = by (nat_le 65536 (length bytes)) e
  where
    by : (t : Bool) → Bad ≡ (if t then TooBig else More) → ⊥
    by true f = absurd (cc f)
    by false f = absurd (cc f)

hopeless_here : (buf more : List ℕ) (len : ℕ) → IsRequestScan buf Bad → IsRequestScan (buf ++ more) (Whole len) → ⊥
hopeless_here buf more len (request.ManyLines over e) scan = absurd (cc e)
hopeless_here buf more len (request.Complete fits h rest reads few e) scan =
    let w = whole_request (buf ++ more) len scan in
    let same : h ≡ w.h = (request_prefix_free buf more h w.h rest w.rest reads w.reads).0 in
    let bad : Bad ≡ Whole len = e ∙ ap request_answer same ∙ sym w.answer in
    absurd (cc bad)
hopeless_here buf more len (request.Hopeless (fits, inl bad) e) scan =
    let w = whole_request (buf ++ more) len scan in
    false≢true (sym bad.1 ∙ target_good buf more w.h w.rest bad.0 w.reads (request_good w.h len w.answer))
hopeless_here buf more len (request.Hopeless (fits, inr never) e) scan =
    let w = whole_request (buf ++ more) len scan in
    never.1 more w.h w.rest w.reads
hopeless_here buf more len (request.Open is e) scan = absurd (not_open buf e)

pub request_hopeless : (bytes more : List ℕ) (len : ℕ) → IsRequestScan (seen bytes) Bad → IsRequestScan (seen (bytes ++ more)) (Whole len) → ⊥
request_hopeless bytes more len bad scan =
    let z = seen_more bytes more in
    hopeless_here (seen bytes) z.0 len bad (subst (λ (t : List ℕ). IsRequestScan t (Whole len)) z.1 scan)

reply_hopeless_here : (buf more : List ℕ) (len : ℕ) → IsReplyScan buf Bad → IsReplyScan (buf ++ more) (Whole len) → ⊥
reply_hopeless_here buf more len (reply.ManyLines over e) scan = absurd (cc e)
reply_hopeless_here buf more len (reply.Complete fits h rest reads few e) scan =
    let w = whole_reply (buf ++ more) len scan in
    let same : h ≡ w.h = (response_prefix_free buf more h w.h rest w.rest reads w.reads).0 in
    let bad : Bad ≡ Whole len = e ∙ ap reply_answer same ∙ sym w.answer in
    absurd (cc bad)
reply_hopeless_here buf more len (reply.Hopeless fits never e) scan =
    let w = whole_reply (buf ++ more) len scan in
    never more w.h w.rest w.reads
reply_hopeless_here buf more len (reply.Open fits nothing may e) scan = absurd (not_open buf e)

pub reply_hopeless : (bytes more : List ℕ) (len : ℕ) → IsReplyScan (seen bytes) Bad → IsReplyScan (seen (bytes ++ more)) (Whole len) → ⊥
reply_hopeless bytes more len bad scan =
    let z = seen_more bytes more in
    reply_hopeless_here (seen bytes) z.0 len bad (subst (λ (t : List ℕ). IsReplyScan t (Whole len)) z.1 scan)

pub head_framing : (part : Part) → IsHeadFraming part
head_framing Request = record { some_bytes = request_some; within = request_within; itself = request_itself; stays = request_stays; hopeless = request_hopeless }
head_framing Reply = record { some_bytes = reply_some; within = reply_within; itself = reply_itself; stays = reply_stays; hopeless = reply_hopeless }
