-- The line feeds of a reply's head.
use Rattle.std.proofs.Common.{◌≡◌, true, ℕ, suc, ◌+◌, ◌<◌, ◌≤◌, List, [], ◌∷◌, ◌++◌, length, refl, sym, ap, ◌∙◌, arith, append_assoc, append-nil, IsTrue, Option, Some, None, take, length-take}
use Rattle.std.proofs.lemmas.Bool.Decides.{nat_tests}
use Rattle.std.proofs.lemmas.List.Elements.{All-nil, All-cons, All-weaker}
use Rattle.std.specs.List.{flat_map}
use Rattle.std.specs.Char.{is_ascii_digit}
use Rattle.httparse.specs.Grammar.{is_value_byte, AllPass, print_end, print_blank, print_version, print_reason, reason_phrase, print_field, ResponseHead, IsResponseHead, print_response}
use Rattle.httparse.specs.Spans.{ResponseExceeds, IsResponseAt, header_bytes, name_and_value}
use Rattle.httparse.specs.declared.spans.ResponseSpans.{ResponseSpans}
use Rattle.httparse.specs.declared.spans.HeaderSpan.{HeaderSpan}
use Rattle.std.proofs.lemmas.List.{length-map}
use Rattle.httparse.proofs.GrammarLemmas.{print_response-append}
use Rattle.rd_http_frame.specs.Fronts.{line_feeds, within, fresh, after_front}
use Rattle.rd_http_frame.proofs.HeadLines.{is_plain, feeds-word, feeds-end, feeds-fields, version_is_plain, value_is_plain, after_blank, cut}

abbrev pub from_digits : ResponseHead → List ℕ → List ℕ
from_digits h R = h.digits ++ (print_reason h.reason ++ (print_end h.line_end ++ (flat_map print_field h.fields ++ R)))

pub digit_is_plain : (b : ℕ) → is_ascii_digit b ≡ true → is_plain b ≡ true
digit_is_plain b h = grind (arith, nat_tests, h)

pub reason_is_plain : (r : Option (List ℕ)) → AllPass is_value_byte (reason_phrase r) → AllPass is_plain (print_reason r)
reason_is_plain None h = All-nil _
reason_is_plain (Some phrase) h =
    All-cons (λ v. is_plain v ≡ true) 32 phrase refl
    (All-weaker (λ v. IsTrue (is_value_byte v)) (λ v. IsTrue (is_plain v)) value_is_plain phrase h)

feeds-reply : (h : ResponseHead) (R : List ℕ) → IsResponseHead h
    → line_feeds within (print_version h.minor ++ 32 ∷ from_digits h R) ≡ suc (length h.fields + line_feeds fresh R)
feeds-reply h R x =
    feeds-word (print_version h.minor) (32 ∷ from_digits h R) (version_is_plain h.minor x.minor)
    ∙ feeds-word h.digits (print_reason h.reason ++ (print_end h.line_end ++ (flat_map print_field h.fields ++ R)))
    (All-weaker (λ v. is_ascii_digit v ≡ true) (λ v. is_plain v ≡ true) digit_is_plain h.digits x.digits.1)
    ∙ feeds-word (print_reason h.reason) (print_end h.line_end ++ (flat_map print_field h.fields ++ R)) (reason_is_plain h.reason x.reason)
    ∙ feeds-end h.line_end (flat_map print_field h.fields ++ R)
    ∙ ap (λ (n : ℕ). suc n) (feeds-fields h.fields R x.fields)

abbrev pub reply_body : ResponseHead → List ℕ
reply_body h = print_blank h.blank ++ (print_version h.minor ++ 32 ∷ from_digits h [])

regroup : (a b c d e f r : List ℕ) → (a ++ (b ++ 32 ∷ (c ++ (d ++ (e ++ (f ++ [])))))) ++ r ≡ a ++ (b ++ 32 ∷ (c ++ (d ++ (e ++ (f ++ r)))))
regroup a b c d e f r = simp (append_assoc, append-nil)

pub reply_body-append : (h : ResponseHead) (R : List ℕ) → reply_body h ++ R ≡ print_blank h.blank ++ (print_version h.minor ++ 32 ∷ from_digits h R)
reply_body-append h R = regroup (print_blank h.blank) (print_version h.minor) h.digits (print_reason h.reason) (print_end h.line_end) (flat_map print_field h.fields) R

pub reply_printed : (h : ResponseHead) (rest : List ℕ) → print_response h ++ rest ≡ reply_body h ++ (print_end h.last ++ rest)
reply_printed h rest =
    print_response-append h rest
    ∙ ap (λ (t : List ℕ). print_blank h.blank ++ (print_version h.minor ++ 32 ∷ (h.digits ++ (print_reason h.reason ++ (print_end h.line_end ++ t)))))
    (append_assoc (flat_map print_field h.fields) (print_end h.last) rest)
    ∙ sym (reply_body-append h (print_end h.last ++ rest))

pub feeds-reply_body : (buf : List ℕ) (h : ResponseHead) (R : List ℕ) → IsResponseHead h → buf ≡ reply_body h ++ R
    → line_feeds within (after_front buf) ≡ suc (length h.fields + line_feeds fresh R)
feeds-reply_body buf h R x e =
    ap (λ (t : List ℕ). line_feeds within (after_front t)) (e ∙ reply_body-append h R)
    ∙ ap (λ (t : List ℕ). line_feeds within t) (after_blank h.blank 72 (84 ∷ 84 ∷ 80 ∷ 47 ∷ 49 ∷ 46 ∷ (48 + h.minor) ∷ 32 ∷ from_digits h R) refl)
    ∙ feeds-reply h R x

pub reply_exceeds_feeds : (room : ℕ) (buf : List ℕ) → ResponseExceeds room buf → room + 1 < line_feeds within (after_front buf)
reply_exceeds_feeds room buf x =
    let front = x.0 in
    let h = x.3 in
    let e : front ++ 10 ∷ [] ≡ reply_body h ++ print_end h.last =
    x.4.1 ∙ reply_printed h [] ∙ ap (λ (t : List ℕ). reply_body h ++ t) (append-nil (print_end h.last)) in
    let c = cut (reply_body h) front h.last e in
    let feeds = feeds-reply_body buf h (c.0 ++ x.1) x.4.0
    (x.2 ∙ ap (λ (t : List ℕ). t ++ x.1) c.1 ∙ append_assoc (reply_body h) c.0 x.1) in
    omega (arith, feeds, x.5)

pub reply_fields_fit : (room : ℕ) (buf : List ℕ) (headers : List HeaderSpan) (r : ResponseSpans) (h : ResponseHead)
    → IsResponseAt buf headers r h → length headers ≤ room → length h.fields ≤ room
reply_fields_fit room buf headers r h x fits =
    let same : length (take r.headers headers) ≡ length h.fields =
    sym (length-map (take r.headers headers) (header_bytes buf)) ∙ ap (λ (t : List (List ℕ × List ℕ)). length t) x.fields ∙ length-map h.fields name_and_value in
    omega (arith, same, fits, length-take r.headers headers)
