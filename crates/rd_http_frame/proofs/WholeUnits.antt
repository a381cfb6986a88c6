-- Requests and replies are what the scans find.
use Rattle.std.proofs.Common.{◌≡◌, ℕ, ◌+◌, ◌≤◌, Bool, true, false, List, [], ◌∷◌, ◌++◌, length, take, drop, length-drop, length-append, drop-drop, append-nil, Result, Ok, refl, sym, ap, ◌∙◌, subst, arith}
use Rattle.std.proofs.lemmas.List.{take-append-drop, take_all, length-take-le}
use Rattle.std.proofs.Math.Seq.{drop-append_seam}
use Rattle.httparse.specs.Grammar.{print_request, print_response}
use Rattle.httparse.proofs.GrammarLemmas.{request_unique, response_unique}
use Rattle.rd_base.specs.declared.values.Scan.{Scan}
use Rattle.rd_base.specs.declared.values.Scan.TheVariants.{Whole}
use Rattle.rd_base.specs.declared.values.Part.{Part}
use Rattle.rd_base.specs.declared.values.Part.TheVariants.{Request, Reply}
use Rattle.rd_http_frame.specs.declared.body.BodyRule.{BodyRule}
use Rattle.rd_http_frame.specs.declared.body.BodyRule.TheVariants.{Empty, Length, Chunked, UntilEnd}
use Rattle.rd_http_frame.specs.declared.unit.FinalHead.{FinalHead}
use Rattle.rd_http_frame.specs.Heads.{IsRequestScan, IsReplyScan, seen}
use Rattle.rd_http_frame.specs.Places.{HeadPlaces, request_places, reply_places}
use Rattle.rd_http_frame.specs.WholeHeads.{BeginsWith}
use Rattle.rd_http_frame.specs.Chunks.{trailer_from}
use Rattle.rd_http_frame.specs.Units.{IsFinalHead, rule_in, IsBodyScan, IsUnitScan, IsWholeRequestScan, IsWholeReplyScan}
use Rattle.rd_http_frame.specs.Units.{IsFinalHead as found_of}
use Rattle.rd_http_frame.specs.WholeUnits.{IsBody, IsHeadOf, IsUnit, IsRequest, IsReply}
use Rattle.rd_http_frame.specs.WholeUnits.{IsUnit as unit}
use Rattle.rd_http_frame.specs.UnitLaws.{FindsUnits}
use Rattle.rd_http_frame.proofs.HeadCuts.{whole_request, whole_reply, request_len, reply_len, request_complete, reply_complete, front_small}
use Rattle.rd_http_frame.proofs.HeadOnce.{begins_itself, begins_stays}
use Rattle.rd_http_frame.proofs.WholeHeads.{begins_fits}
use Rattle.rd_http_frame.proofs.FinalOnce.{behind_ok}
use Rattle.rd_http_frame.proofs.BodyCuts.{whole_chunked, chunked_made, sized_shows, sized_made}
use Rattle.rd_http_frame.proofs.ChunkForms.{chunked_is, chunked_back}
use Rattle.rd_http_frame.proofs.UnitCuts.{whole_unit, unit_itself, unit_within}

empty : (xs : List ℕ) → length xs ≡ 0 → xs ≡ []
empty [] e = refl
empty (x ∷ xs) e = absurd (omega (arith, e))

-- what is read of all bytes leaves nothing
alone : (bytes p rest : List ℕ) → seen bytes ≡ p ++ rest → length bytes ≡ length p → (length bytes ≤ 65536) × (bytes ≡ p)
alone bytes p rest e size =
    let short = (front_small bytes p rest e).0 in
    let all : seen bytes ≡ bytes = take_all 65536 bytes (omega (arith, short, size)) in
    let sum : length bytes ≡ length p + length rest = ap length (sym all ∙ e) ∙ length-append p rest in
    let none : rest ≡ [] = empty rest (omega (arith, sum, size)) in
    (omega (arith, short, size), sym all ∙ e ∙ ap (λ t. p ++ t) none ∙ append-nil p)

-- ---- heads

head_is : (part : Part) (bytes : List ℕ) (head : HeadPlaces) → BeginsWith part bytes (length bytes) head → IsHeadOf part bytes head
head_is Request bytes head x =
    let w = whole_request (seen bytes) (length bytes) x.whole in
    let text = print_request w.h in
    let by_itself = alone bytes text w.rest w.reads.1 (request_len w.h (length bytes) w.answer) in
    record {
      h = w.h;
      good = w.reads.0;
      is = by_itself.1;
      few = w.few;
      short = by_itself.0;
      taken = sym w.answer;
      places = x.places.3 ∙ ap request_places (request_unique (seen bytes) x.places.0 w.h x.places.1 w.rest x.places.2 w.reads).0;
    }
head_is Reply bytes head x =
    let w = whole_reply (seen bytes) (length bytes) x.whole in
    let text = print_response w.h in
    let by_itself = alone bytes text w.rest w.reads.1 (reply_len w.h (length bytes) w.answer) in
    record {
      h = w.h;
      good = w.reads.0;
      is = by_itself.1;
      few = w.few;
      short = by_itself.0;
      taken = sym w.answer;
      places = x.places.3 ∙ ap reply_places (response_unique (seen bytes) x.places.0 w.h x.places.1 w.rest x.places.2 w.reads).0;
    }

head_back : (part : Part) (bytes : List ℕ) (head : HeadPlaces) → IsHeadOf part bytes head → BeginsWith part bytes (length bytes) head
head_back Request bytes head x =
    let reads : seen bytes ≡ print_request x.h ++ [] = take_all 65536 bytes x.short ∙ x.is ∙ sym (append-nil (print_request x.h)) in
    record {
      whole = subst (λ (s : Scan). IsRequestScan (seen bytes) s) x.taken (request_complete (seen bytes) x.h [] (x.good, reads) x.few);
      places = (x.h, [], (x.good, reads), x.places);
    }
head_back Reply bytes head x =
    let reads : seen bytes ≡ print_response x.h ++ [] = take_all 65536 bytes x.short ∙ x.is ∙ sym (append-nil (print_response x.h)) in
    record {
      whole = subst (λ (s : Scan). IsReplyScan (seen bytes) s) x.taken (reply_complete (seen bytes) x.h [] (x.good, reads) x.few);
      places = (x.h, [], (x.good, reads), x.places);
    }

-- ---- bodies

body_is : (rule : BodyRule) (ended : Bool) (bytes : List ℕ) → IsBodyScan rule ended bytes (Whole (length bytes)) → IsBody rule ended bytes
body_is Empty ended bytes x = cc x
body_is (Length size) ended bytes x = (sized_shows size (length bytes) (length bytes) x).0
body_is Chunked ended bytes x =
    let w = whole_chunked bytes (length bytes) (trailer_from bytes) refl x in
    chunked_is bytes w.at w.size (w.is, w.trailer, w.sum)
body_is UntilEnd true bytes x = refl
body_is UntilEnd false bytes x = absurd (cc x)

body_back : (rule : BodyRule) (ended : Bool) (bytes : List ℕ) → IsBody rule ended bytes → IsBodyScan rule ended bytes (Whole (length bytes))
body_back Empty ended bytes x = ap Whole x
body_back (Length size) ended bytes x = sized_made size (length bytes) (length bytes) x (omega (arith, x))
body_back Chunked ended bytes x =
    let w = chunked_back bytes x in
    chunked_made bytes w.0 w.1 (length bytes) w.2.0 w.2.1 w.2.2
body_back UntilEnd true bytes x = refl
body_back UntilEnd false bytes x = absurd (cc x)

-- ---- units

-- so many bytes of a head that begins these
head_front : (part : Part) (bytes : List ℕ) (len : ℕ) (head : HeadPlaces) → BeginsWith part bytes len head → IsHeadOf part (take len bytes) head
head_front part bytes len head x =
    let fits = begins_fits part bytes len head x in
    let size : length (take len bytes) ≡ len = length-take-le len bytes fits.1 in
    head_is part (take len bytes) head
    (subst (λ n. BeginsWith part (take len bytes) n head) (sym size) (begins_itself part bytes len len head (omega arith) x))

unit_is : (part : Part) (head_request ended : Bool) (bytes : List ℕ) (found : Result FinalHead Scan) (head : FinalHead) → IsFinalHead part bytes found → found ≡ Ok head
    → IsBody (rule_in head_request head.body) ended (drop head.to bytes) → IsUnit part head_request ended bytes
unit_is part head_request ended bytes found head (found_of.Missing bs s r x none e) q body = absurd (cc (sym e ∙ q))
unit_is part head_request ended bytes found head (found_of.Interim bs len h later r x mid z e) q body =
    let w = behind_ok len later head (sym e ∙ q) in
    let to : head.to ≡ len + w.0.to = ap (λ (p : FinalHead). p.to) w.2 in
    let rule : rule_in head_request head.body ≡ rule_in head_request w.0.body = ap (λ (p : FinalHead). rule_in head_request p.body) w.2 in
    let cut : drop head.to bytes ≡ drop w.0.to (drop len bytes) = ap (λ n. drop n bytes) to ∙ sym (drop-drop w.0.to len bytes) in
    let here = subst (λ (t : List ℕ). IsBody (rule_in head_request w.0.body) ended t) cut (subst (λ (b : BodyRule). IsBody b ended (drop head.to bytes)) rule body) in
    unit.Interim (take len bytes) (drop len bytes) bytes h (head_front part bytes len h x) mid
    (unit_is part head_request ended (drop len bytes) later w.0 z w.1 here) (sym (take-append-drop len bytes))
unit_is part head_request ended bytes found head (found_of.Final bs len h r x fin e) q body =
    let same : head ≡ record { from = 0; to = len; body = h.body } = cc (sym q ∙ e) in
    let here = subst (λ (p : FinalHead). IsBody (rule_in head_request p.body) ended (drop p.to bytes)) same body in
    unit.Final (take len bytes) (drop len bytes) bytes h (head_front part bytes len h x) fin here (sym (take-append-drop len bytes))

whole_is : (part : Part) (head_request ended : Bool) (bytes : List ℕ) → IsUnitScan part head_request ended bytes (Whole (length bytes)) → IsUnit part head_request ended bytes
whole_is part head_request ended bytes x =
    let w = whole_unit part head_request ended bytes (length bytes) x in
    let rest = drop w.head.to bytes in
    let rule = rule_in head_request w.head.body in
    let size : length rest ≡ w.size = omega (arith, length-drop w.head.to bytes, w.sum) in
    unit_is part head_request ended bytes (Ok w.head) w.head w.found refl
    (body_is rule ended rest (subst (λ n. IsBodyScan rule ended rest (Whole n)) (sym size) w.body))

pub unit_whole : (part : Part) (head_request ended : Bool) (bytes : List ℕ) (len : ℕ) → IsUnitScan part head_request ended bytes (Whole len) → IsUnit part head_request ended (take len bytes)
unit_whole part head_request ended bytes len x =
    let size : length (take len bytes) ≡ len = length-take-le len bytes (unit_within part head_request ended bytes len x) in
    whole_is part head_request ended (take len bytes)
    (subst (λ n. IsUnitScan part head_request ended (take len bytes) (Whole n)) (sym size) (unit_itself part head_request ended bytes len x))

record Found (part : Part) (head_request ended : Bool) (bytes : List ℕ) : Type 0 where
  head : FinalHead
  found : IsFinalHead part bytes (Ok head)
  size : ℕ
  body : IsBodyScan (rule_in head_request head.body) ended (drop head.to bytes) (Whole size)
  sum : length bytes ≡ head.to + size

unit_back : (part : Part) (head_request ended : Bool) (bytes : List ℕ) → IsUnit part head_request ended bytes → Found part head_request ended bytes
unit_back part head_request ended bytes (unit.Interim front rest b h x mid more e) =
    let later = unit_back part head_request ended rest more in
    let len = length front in
    let begins : BeginsWith part bytes len h = subst (λ t. BeginsWith part t len h) (sym e) (begins_stays part front rest len h (head_back part front h x)) in
    let left : drop len bytes ≡ rest = ap (drop len) e ∙ drop-append_seam front rest in
    let head : FinalHead = record { from = len + later.head.from; to = len + later.head.to; body = later.head.body } in
    let cut : drop (len + later.head.to) bytes ≡ drop later.head.to rest = sym (drop-drop later.head.to len bytes) ∙ ap (drop later.head.to) left in
    record {
      head = head;
      found = found_of.Interim bytes len h (Ok later.head) (Ok head) begins mid (subst (λ t. IsFinalHead part t (Ok later.head)) (sym left) later.found) refl;
      size = later.size;
      body = subst (λ t. IsBodyScan (rule_in head_request later.head.body) ended t (Whole later.size)) (sym cut) later.body;
      sum = omega (arith, ap length e, length-append front rest, later.sum);
    }
unit_back part head_request ended bytes (unit.Final front body b h x fin is e) =
    let len = length front in
    let begins : BeginsWith part bytes len h = subst (λ t. BeginsWith part t len h) (sym e) (begins_stays part front body len h (head_back part front h x)) in
    let left : drop len bytes ≡ body = ap (drop len) e ∙ drop-append_seam front body in
    let rule = rule_in head_request h.body in
    record {
      head = record { from = 0; to = len; body = h.body };
      found = found_of.Final bytes len h (Ok (record { from = 0; to = len; body = h.body })) begins fin refl;
      size = length body;
      body = subst (λ t. IsBodyScan rule ended t (Whole (length body))) (sym left) (body_back rule ended body is);
      sum = ap length e ∙ length-append front body;
    }

pub unit_found : (part : Part) (head_request ended : Bool) (bytes : List ℕ) → IsUnit part head_request ended bytes → IsUnitScan part head_request ended bytes (Whole (length bytes))
unit_found part head_request ended bytes x =
    let w = unit_back part head_request ended bytes x in
    (Ok w.head, w.found, (Whole w.size, w.body, ap Whole w.sum))

pub finds_requests : FindsUnits (λ _. IsRequest) (λ _. IsWholeRequestScan)
finds_requests = record {
  whole = λ ended bytes len x. unit_whole Request false false bytes len x;
  found = λ ended bytes x. unit_found Request false false bytes x;
}

pub finds_replies : (head_request : Bool) → FindsUnits (IsReply head_request) (IsWholeReplyScan head_request)
finds_replies head_request = record {
  whole = λ ended bytes len x. unit_whole Reply head_request ended bytes len x;
  found = λ ended bytes x. unit_found Reply head_request ended bytes x;
}
