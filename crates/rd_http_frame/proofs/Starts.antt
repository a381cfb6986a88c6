-- Where the first field line of a head begins.
use Rattle.std.proofs.Common.{◌≡◌, ℕ, ◌+◌, true, false, List, [], ◌∷◌, ◌++◌, length, drop, take, ap, sym, ◌∙◌, refl, arith, length-append, append_assoc, drop-drop, subst, ◌==◌, IsTrue}
use Rattle.std.specs.Char.{is_ascii_digit}
use Rattle.std.specs.List.{flat_map, prefix_len, position_or_len}
use Rattle.std.proofs.lemmas.List.Elements.{All-head, All-nil, All-cons, All-weaker, All-append}
use Rattle.httparse.specs.Grammar.{is_token_byte, is_uri_byte, AllPass, IsToken, LineEnd, crlf, lf, print_end, print_blank, print_version, print_reason, print_field, RequestHead, ReadsRequest, ResponseHead, ReadsResponse}
use Rattle.httparse.proofs.PieceLemmas.{token_is_no_newline}
use Rattle.httparse.proofs.GrammarLemmas.{print_request-append, print_response-append}
use Rattle.httparse.specs.declared.spans.HeaderSpan.{HeaderSpan}
use Rattle.httparse.specs.declared.spans.RequestSpans.{RequestSpans}
use Rattle.httparse.specs.declared.spans.ResponseSpans.{ResponseSpans}
use Rattle.httparse.specs.Spans.{IsRequestAt, IsResponseAt}
use Rattle.rd_http_frame.specs.Fronts.{is_break, front_len}
use Rattle.rd_http_frame.specs.Places.{first_at, request_start, reply_start, AreLinesAt}
use Rattle.rd_http_frame.proofs.HeadLines.{is_plain, token_is_plain, uri_is_plain, version_is_plain}
use Rattle.rd_http_frame.proofs.Replies.{digit_is_plain, reason_is_plain}
use Rattle.rd_http_frame.proofs.FieldPlaces.{pos_stop}

drop-length : (w rest : List ℕ) → drop (length w) (w ++ rest) ≡ rest
drop-length [] rest = refl
drop-length (x ∷ w) rest = drop-length w rest

blank_len : (es : List LineEnd) (b : ℕ) (rest : List ℕ) → is_break b ≡ false → prefix_len is_break (print_blank es ++ b ∷ rest) ≡ length (print_blank es)
blank_len [] b rest h = rw h refl
blank_len (crlf ∷ es) b rest h = ap (λ (n : ℕ). 1 + (1 + n)) (blank_len es b rest h) ∙ omega arith
blank_len (lf ∷ es) b rest h = ap (λ (n : ℕ). 1 + n) (blank_len es b rest h) ∙ omega arith

abbrev before_feed : LineEnd → List ℕ
before_feed crlf = 13 ∷ []
before_feed lf = []

end_split : (w : List ℕ) (e : LineEnd) (rest : List ℕ) → w ++ (print_end e ++ rest) ≡ (w ++ before_feed e) ++ 10 ∷ rest
end_split w crlf rest = sym (append_assoc w (13 ∷ []) (10 ∷ rest))
end_split w lf rest = sym (append_assoc w [] (10 ∷ rest))

end_plain : (e : LineEnd) → AllPass is_plain (before_feed e)
end_plain crlf = All-cons (λ v. is_plain v ≡ true) 13 [] refl (All-nil _)
end_plain lf = All-nil _

end_size : (e : LineEnd) → length (print_end e) ≡ length (before_feed e) + 1
end_size crlf = refl
end_size lf = refl

-- where the first line after the blank ones ends
pub record Start (buf : List ℕ) (blank : List LineEnd) (w : List ℕ) (e : LineEnd) (tail : List ℕ) : Type 0 where
  pub front : front_len buf ≡ length (print_blank blank)
  pub feed : first_at buf (length (print_blank blank)) 10 + 1 ≡ length (print_blank blank) + (length w + length (print_end e))
  pub behind : drop (length (print_blank blank) + (length w + length (print_end e))) buf ≡ tail

start : (buf : List ℕ) (blank : List LineEnd) (b : ℕ) (w : List ℕ) (e : LineEnd) (tail : List ℕ) → buf ≡ print_blank blank ++ ((b ∷ w) ++ (print_end e ++ tail))
    → is_break b ≡ false → AllPass is_plain (b ∷ w) → Start buf blank (b ∷ w) e tail
start buf blank b w e tail is first plain =
    let here : drop (length (print_blank blank)) buf ≡ (b ∷ w) ++ (print_end e ++ tail) = ap (λ (t : List ℕ). drop (length (print_blank blank)) t) is ∙ drop-length (print_blank blank) _ in
    let stop : position_or_len (λ x. x == 10) (drop (length (print_blank blank)) buf) ≡ length ((b ∷ w) ++ before_feed e) =
    ap (λ (t : List ℕ). position_or_len (λ x. x == 10) t) (here ∙ end_split (b ∷ w) e tail)
    ∙ pos_stop 10 ((b ∷ w) ++ before_feed e) tail (All-append (λ v. is_plain v ≡ true) (b ∷ w) (before_feed e) plain (end_plain e)) in
    let size : length ((b ∷ w) ++ before_feed e) ≡ length (b ∷ w) + length (before_feed e) = length-append (b ∷ w) (before_feed e) in
    record {
      front = ap (λ (t : List ℕ). prefix_len is_break t) is ∙ blank_len blank b (w ++ (print_end e ++ tail)) first;
      feed = omega (arith, stop, size, end_size e);
      behind = sym (drop-drop (length (b ∷ w) + length (print_end e)) (length (print_blank blank)) buf)
          ∙ ap (λ (t : List ℕ). drop (length (b ∷ w) + length (print_end e)) t) here
          ∙ ap (λ (n : ℕ). drop n ((b ∷ w) ++ (print_end e ++ tail))) (sym (length-append (b ∷ w) (print_end e)))
          ∙ ap (λ (t : List ℕ). drop (length ((b ∷ w) ++ print_end e)) t) (sym (append_assoc (b ∷ w) (print_end e) tail))
          ∙ drop-length ((b ∷ w) ++ print_end e) tail;
    }

any_start : (buf : List ℕ) (blank : List LineEnd) (w : List ℕ) (e : LineEnd) (tail : List ℕ) (m more : List ℕ) → buf ≡ print_blank blank ++ (w ++ (print_end e ++ tail))
    → w ≡ m ++ more → IsToken m → AllPass is_plain w → Start buf blank w e tail
any_start buf blank w e tail [] more is front token plain = absurd (omega (arith, token.0))
any_start buf blank w e tail (b ∷ m) more is front token plain =
    subst (λ (v : List ℕ). Start buf blank v e tail) (sym front)
    (start buf blank b (m ++ more) e tail (is ∙ ap (λ (v : List ℕ). print_blank blank ++ (v ++ (print_end e ++ tail))) front)
    (token_is_no_newline b (All-head (λ v. is_token_byte v ≡ true) b m token.1))
    (subst (λ (v : List ℕ). AllPass is_plain v) front plain))

regroup : (a b c d e : List ℕ) → a ++ 32 ∷ (b ++ 32 ∷ (c ++ (d ++ e))) ≡ (a ++ 32 ∷ (b ++ 32 ∷ c)) ++ (d ++ e)
regroup a b c d e = simp (append_assoc)

space_plain : (w : List ℕ) → AllPass is_plain w → AllPass is_plain (32 ∷ w)
space_plain w h = All-cons (λ v. is_plain v ≡ true) 32 w refl h

pub request_starts : (buf : List ℕ) (h : RequestHead) (rest : List ℕ) → ReadsRequest buf h rest
    → Start buf h.blank (h.method ++ 32 ∷ (h.target ++ 32 ∷ print_version h.minor)) h.line_end (flat_map print_field h.fields ++ (print_end h.last ++ rest))
request_starts buf h rest x =
    any_start buf h.blank (h.method ++ 32 ∷ (h.target ++ 32 ∷ print_version h.minor)) h.line_end (flat_map print_field h.fields ++ (print_end h.last ++ rest)) h.method (32 ∷ (h.target ++ 32 ∷ print_version h.minor))
    (x.1 ∙ print_request-append h rest
    ∙ ap (λ (t : List ℕ). print_blank h.blank ++ (h.method ++ 32 ∷ (h.target ++ 32 ∷ (print_version h.minor ++ (print_end h.line_end ++ t))))) (append_assoc (flat_map print_field h.fields) (print_end h.last) rest)
    ∙ ap (λ (t : List ℕ). print_blank h.blank ++ t) (regroup h.method h.target (print_version h.minor) (print_end h.line_end) (flat_map print_field h.fields ++ (print_end h.last ++ rest))))
    refl x.0.method
    (All-append (λ v. is_plain v ≡ true) h.method (32 ∷ (h.target ++ 32 ∷ print_version h.minor)) (All-weaker (λ v. IsTrue (is_token_byte v)) (λ v. IsTrue (is_plain v)) token_is_plain h.method x.0.method.1)
    (space_plain (h.target ++ 32 ∷ print_version h.minor) (All-append (λ v. is_plain v ≡ true) h.target (32 ∷ print_version h.minor) (All-weaker (λ v. IsTrue (is_uri_byte v)) (λ v. IsTrue (is_plain v)) uri_is_plain h.target x.0.target.1)
    (space_plain (print_version h.minor) (version_is_plain h.minor x.0.minor)))))

regroup_reply : (a b c d e : List ℕ) → a ++ 32 ∷ (b ++ (c ++ (d ++ e))) ≡ (a ++ 32 ∷ (b ++ c)) ++ (d ++ e)
regroup_reply a b c d e = simp (append_assoc)

pub reply_starts : (buf : List ℕ) (h : ResponseHead) (rest : List ℕ) → ReadsResponse buf h rest
    → Start buf h.blank (print_version h.minor ++ 32 ∷ (h.digits ++ print_reason h.reason)) h.line_end (flat_map print_field h.fields ++ (print_end h.last ++ rest))
reply_starts buf h rest x =
    start buf h.blank 72 (84 ∷ 84 ∷ 80 ∷ 47 ∷ 49 ∷ 46 ∷ (48 + h.minor) ∷ 32 ∷ (h.digits ++ print_reason h.reason)) h.line_end (flat_map print_field h.fields ++ (print_end h.last ++ rest))
    (x.1 ∙ print_response-append h rest
    ∙ ap (λ (t : List ℕ). print_blank h.blank ++ (print_version h.minor ++ 32 ∷ (h.digits ++ (print_reason h.reason ++ (print_end h.line_end ++ t))))) (append_assoc (flat_map print_field h.fields) (print_end h.last) rest)
    ∙ ap (λ (t : List ℕ). print_blank h.blank ++ t) (regroup_reply (print_version h.minor) h.digits (print_reason h.reason) (print_end h.line_end) (flat_map print_field h.fields ++ (print_end h.last ++ rest))))
    refl
    (All-append (λ v. is_plain v ≡ true) (print_version h.minor) (32 ∷ (h.digits ++ print_reason h.reason)) (version_is_plain h.minor x.0.minor)
    (space_plain (h.digits ++ print_reason h.reason) (All-append (λ v. is_plain v ≡ true) h.digits (print_reason h.reason) (All-weaker (λ v. IsTrue (is_ascii_digit v)) (λ v. is_plain v ≡ true) digit_is_plain h.digits x.0.digits.1)
    (reason_is_plain h.reason x.0.reason))))

pub request_lines : (buf : List ℕ) (headers : List HeaderSpan) (r : RequestSpans) (h : RequestHead) → IsRequestAt buf headers r h
    → AreLinesAt buf (request_start h) (take r.headers headers) h.fields
request_lines buf headers r h x = record {
  good = x.reads.0.fields;
  rest = print_end h.last ++ drop r.len buf;
  lines = (request_starts buf h (drop r.len buf) x.reads).behind;
  covered = x.fields;
}

pub reply_lines : (buf : List ℕ) (headers : List HeaderSpan) (r : ResponseSpans) (h : ResponseHead) → IsResponseAt buf headers r h
    → AreLinesAt buf (reply_start h) (take r.headers headers) h.fields
reply_lines buf headers r h x = record {
  good = x.reads.0.fields;
  rest = print_end h.last ++ drop r.len buf;
  lines = (reply_starts buf h (drop r.len buf) x.reads).behind;
  covered = x.fields;
}
