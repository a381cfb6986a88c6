-- The tokens of a whole head, by its start line, its fields and its body.
use Rattle.std.proofs.Common.{◌≡◌, ℕ, ◌+◌, ◌-◌, ◌<◌, ◌^◌, Bool, true, false, cond, not, IsTrue, List, [], ◌∷◌, ◌++◌, length, take, drop, append_assoc, append-nil, length-append, refl, sym, ap, ◌∙◌, subst, arith}
use Rattle.std.specs.Prelude.{◌==◌, All}
use Rattle.std.specs.Char.{is_ascii_digit}
use Rattle.std.specs.Int.{to_be_bytes, w32}
use Rattle.std.specs.List.{flat_map, position_or_len}
use Rattle.std.proofs.lemmas.Bool.Decides.{nat_tests}
use Rattle.std.proofs.lemmas.List.{take-append-le, take_all, drop_at}
use Rattle.std.proofs.lemmas.List.Elements.{All-nil, All-cons, All-append, All-weaker, All-head, All-tail}
use Rattle.httparse.specs.Grammar.{is_token_byte, is_uri_byte, AllPass, LineEnd, crlf, lf, print_end, print_version, print_reason, Field, IsField, print_field, print_section, RequestHead, IsRequestHead, print_request, ResponseHead, IsResponseHead, print_response}
use Rattle.httparse.proofs.PieceLemmas.{space_ends_token}
use Rattle.rd_base.specs.Token.{Token, token}
use Rattle.rd_base.specs.WordCut.{cut_words}
use Rattle.rd_base.specs.declared.names.NameRules.{NameRules}
use Rattle.rd_base.specs.declared.values.Part.{Part}
use Rattle.rd_base.specs.declared.values.Part.TheVariants.{Request, Reply}
use Rattle.rd_base.specs.declared.values.Side.{Side}
use Rattle.rd_base.specs.declared.values.TokenKind.TheVariants.{Firm}
use Rattle.rd_http_frame.specs.Flats.{with_length}
use Rattle.rd_http_frame.specs.Fronts.{after_front}
use Rattle.rd_http_frame.proofs.HeadLines.{is_plain, token_is_plain, uri_is_plain, version_is_plain, from_method, head_front, after_blank}
use Rattle.rd_http_frame.proofs.Replies.{from_digits, digit_is_plain, reason_is_plain, reply_printed, reply_body-append}
use Rattle.rd_http_scan.specs.Ends.{end_at}
use Rattle.rd_http_tokens.specs.Tokens.{unstated, line_of, behind_line, lines, is_blank, field_tokens, trailer_tokens, start_tokens, start_left, head_tokens, up_to_space, behind_space}
use Rattle.rd_http_tokens.specs.HttpGrammar.{left_at, first, front, unnumbered, trailer_in, trailer_left}
use Rattle.rd_http_tokens.specs.HeadTokens.{told, request_tokens, reply_tokens, AreDeclared}
use Rattle.rd_http_tokens.proofs.Declared.{IsLine, line_there, line_for, printed_line, line_plain, not_blank, field_told, mark_line, run_len, behind_is}
use Rattle.rd_http_tokens.proofs.Trailing.{opened, told_line}

-- ---- start lines

-- a word in front of a space
word_there : (w rest : List ℕ) → AllPass (λ b. not (b == 32)) w → (up_to_space (w ++ 32 ∷ rest) ≡ w) × (behind_space (w ++ 32 ∷ rest) ≡ rest)
word_there w rest all =
    let len : position_or_len (λ b. b == 32) (w ++ 32 ∷ rest) ≡ length w = run_len _ w 32 rest all refl in (
      ap (λ n. take n (w ++ 32 ∷ rest)) len ∙ take-append-le (length w) w (32 ∷ rest) (omega arith) ∙ take_all (length w) w (omega arith),
      ap (λ n. drop (n + 1) (w ++ 32 ∷ rest)) len ∙ ap (λ (t : List ℕ). drop (length w + 1) t) (sym (append_assoc w (32 ∷ []) rest)) ∙ drop_at (w ++ 32 ∷ []) rest (length w + 1) (length-append w (32 ∷ [])),
    )

token_no_space : (b : ℕ) → is_token_byte b ≡ true → not (b == 32) ≡ true
token_no_space b h = by (b == 32) refl
  where
    by : (t : Bool) → (b == 32) ≡ t → not (b == 32) ≡ true
    by true e = let is : b ≡ 32 = grind (arith, nat_tests, e) in let bad : true ≡ false = sym h ∙ ap is_token_byte is ∙ space_ends_token in absurd (cc bad)
    by false e = ap not e

uri_no_space : (b : ℕ) → IsTrue (is_uri_byte b) → not (b == 32) ≡ true
uri_no_space b h = grind (arith, nat_tests, h)

-- what stands behind a start line's words, up to its line feed
abbrev ending : LineEnd → List ℕ
ending crlf = 13 ∷ []
ending lf = []

ending_plain : (e : LineEnd) → AllPass is_plain (ending e)
ending_plain crlf = All-cons (λ v. IsTrue (is_plain v)) 13 [] refl (All-nil _)
ending_plain lf = All-nil _

-- a line that ends so
line_ends : (e : LineEnd) (line rest : List ℕ) → AllPass is_plain line → IsLine (line ++ (print_end e ++ rest)) (line ++ ending e) rest
line_ends e line rest plain =
    subst (λ (t : List ℕ). IsLine t (line ++ ending e) rest) (by e) (line_there (line ++ ending e) rest (All-append (λ v. IsTrue (is_plain v)) line (ending e) plain (ending_plain e)))
  where
    by : (e : LineEnd) → (line ++ ending e) ++ 10 ∷ rest ≡ line ++ (print_end e ++ rest)
    by crlf = append_assoc line (13 ∷ []) (10 ∷ rest)
    by lf = append_assoc line [] (10 ∷ rest)

-- a start line, and what stands behind it
started : (names : NameRules) (part : Part) (whole : Bool) (text line rest : List ℕ) → IsLine text line rest → start_left names part whole text ≡ start_tokens part line ++ lines names unstated whole rest
started names part whole text line rest x =
    rw x.has (ap (λ (l : List ℕ). start_tokens part l ++ lines names unstated whole (behind_line text)) x.line_is ∙ ap (λ (r : List ℕ). start_tokens part line ++ lines names unstated whole r) x.behind)

-- ---- requests

request_line : (h : RequestHead) → IsRequestHead h → AllPass is_plain (h.method ++ 32 ∷ (h.target ++ 32 ∷ print_version h.minor))
request_line h x =
    let P : ℕ → Type 0 = λ v. IsTrue (is_plain v) in
    let target = All-append P h.target (32 ∷ print_version h.minor) (All-weaker (λ v. IsTrue (is_uri_byte v)) P uri_is_plain h.target x.target.1)
    (All-cons P 32 (print_version h.minor) refl (version_is_plain h.minor x.minor)) in
    All-append P h.method (32 ∷ (h.target ++ 32 ∷ print_version h.minor)) (All-weaker (λ v. IsTrue (is_token_byte v)) P token_is_plain h.method x.method.1)
    (All-cons P 32 (h.target ++ 32 ∷ print_version h.minor) refl target)

request_start : (h : RequestHead) (more : List ℕ) → IsRequestHead h
    → start_tokens Request ((h.method ++ 32 ∷ (h.target ++ 32 ∷ print_version h.minor)) ++ more) ≡ token Firm h.method ∷ cut_words h.target
request_start h more x =
    let split : (h.method ++ 32 ∷ (h.target ++ 32 ∷ print_version h.minor)) ++ more ≡ h.method ++ 32 ∷ (h.target ++ 32 ∷ (print_version h.minor ++ more)) =
    append_assoc h.method (32 ∷ (h.target ++ 32 ∷ print_version h.minor)) more ∙ ap (λ (t : List ℕ). h.method ++ 32 ∷ t) (append_assoc h.target (32 ∷ print_version h.minor) more) in
    let method = word_there h.method (h.target ++ 32 ∷ (print_version h.minor ++ more)) (All-weaker (λ v. IsTrue (is_token_byte v)) (λ v. IsTrue (not (v == 32))) token_no_space h.method x.method.1) in
    let target = word_there h.target (print_version h.minor ++ more) (All-weaker (λ v. IsTrue (is_uri_byte v)) (λ v. IsTrue (not (v == 32))) uri_no_space h.target x.target.1) in
    ap (start_tokens Request) split
    ∙ ap (λ (m : List ℕ). token Firm m ∷ cut_words (up_to_space (behind_space (h.method ++ 32 ∷ (h.target ++ 32 ∷ (print_version h.minor ++ more)))))) method.0
    ∙ ap (λ (t : List ℕ). token Firm h.method ∷ cut_words (up_to_space t)) method.1
    ∙ ap (λ (t : List ℕ). token Firm h.method ∷ cut_words t) target.0

request_head : (names : NameRules) (whole : Bool) (h : RequestHead) (body : List ℕ) → IsRequestHead h → head_tokens names Request whole (print_request h ++ body) ≡ request_tokens names whole h body
request_head names whole h body x =
    let line = h.method ++ 32 ∷ (h.target ++ 32 ∷ print_version h.minor) in
    let rest = flat_map print_field h.fields ++ (print_end h.last ++ body) in
    let split : from_method h (print_end h.last ++ body) ≡ line ++ (print_end h.line_end ++ rest) =
    sym (append_assoc h.method (32 ∷ (h.target ++ 32 ∷ print_version h.minor)) (print_end h.line_end ++ rest)
    ∙ ap (λ (t : List ℕ). h.method ++ 32 ∷ t) (append_assoc h.target (32 ∷ print_version h.minor) (print_end h.line_end ++ rest))) in
    ap (start_left names Request whole) (head_front (print_request h ++ body) h body (x, refl) ∙ split)
    ∙ started names Request whole (line ++ (print_end h.line_end ++ rest)) (line ++ ending h.line_end) rest (line_ends h.line_end line rest (request_line h x))
    ∙ ap (λ (ts : List Token). ts ++ lines names unstated whole rest) (request_start h (ending h.line_end) x)
    ∙ ap (λ (ts : List Token). (token Firm h.method ∷ cut_words h.target) ++ ts) (behind_is names whole h.fields h.last body x.fields)

-- ---- replies

abbrev reply_line : ResponseHead → List ℕ
reply_line h = print_version h.minor ++ 32 ∷ (h.digits ++ print_reason h.reason)

reply_plain : (h : ResponseHead) → IsResponseHead h → AllPass is_plain (reply_line h)
reply_plain h x =
    let P : ℕ → Type 0 = λ v. IsTrue (is_plain v) in
    All-append P (print_version h.minor) (32 ∷ (h.digits ++ print_reason h.reason)) (version_is_plain h.minor x.minor)
    (All-cons P 32 (h.digits ++ print_reason h.reason) refl
    (All-append P h.digits (print_reason h.reason) (All-weaker (λ v. IsTrue (is_ascii_digit v)) P digit_is_plain h.digits x.digits.1) (reason_is_plain h.reason x.reason)))

reply_start : (h : ResponseHead) (more : List ℕ) → IsResponseHead h → start_tokens Reply (reply_line h ++ more) ≡ token Firm h.digits ∷ []
reply_start h more x =
    let split : reply_line h ++ more ≡ print_version h.minor ++ 32 ∷ (h.digits ++ (print_reason h.reason ++ more)) =
    append_assoc (print_version h.minor) (32 ∷ (h.digits ++ print_reason h.reason)) more ∙ ap (λ (t : List ℕ). print_version h.minor ++ 32 ∷ t) (append_assoc h.digits (print_reason h.reason) more) in
    let digits : take 3 (h.digits ++ (print_reason h.reason ++ more)) ≡ h.digits =
    take-append-le 3 h.digits (print_reason h.reason ++ more) (omega (arith, x.digits.0)) ∙ take_all 3 h.digits (omega (arith, x.digits.0)) in
    ap (start_tokens Reply) split ∙ ap (λ (t : List ℕ). token Firm t ∷ []) digits

reply_front : (h : ResponseHead) (body : List ℕ) → after_front (print_response h ++ body) ≡ print_version h.minor ++ 32 ∷ from_digits h (print_end h.last ++ body)
reply_front h body =
    ap after_front (reply_printed h body ∙ reply_body-append h (print_end h.last ++ body))
    ∙ after_blank h.blank 72 (84 ∷ 84 ∷ 80 ∷ 47 ∷ 49 ∷ 46 ∷ (48 + h.minor) ∷ 32 ∷ from_digits h (print_end h.last ++ body)) refl

reply_head : (names : NameRules) (whole : Bool) (h : ResponseHead) (body : List ℕ) → IsResponseHead h → head_tokens names Reply whole (print_response h ++ body) ≡ reply_tokens names whole h body
reply_head names whole h body x =
    let rest = flat_map print_field h.fields ++ (print_end h.last ++ body) in
    let split : print_version h.minor ++ 32 ∷ from_digits h (print_end h.last ++ body) ≡ reply_line h ++ (print_end h.line_end ++ rest) =
    sym (append_assoc (print_version h.minor) (32 ∷ (h.digits ++ print_reason h.reason)) (print_end h.line_end ++ rest)
    ∙ ap (λ (t : List ℕ). print_version h.minor ++ 32 ∷ t) (append_assoc h.digits (print_reason h.reason) (print_end h.line_end ++ rest))) in
    ap (start_left names Reply whole) (reply_front h body ∙ split)
    ∙ started names Reply whole (reply_line h ++ (print_end h.line_end ++ rest)) (reply_line h ++ ending h.line_end) rest (line_ends h.line_end (reply_line h) rest (reply_plain h x))
    ∙ ap (λ (ts : List Token). ts ++ lines names unstated whole rest) (reply_start h (ending h.line_end) x)
    ∙ ap (λ (ts : List Token). token Firm h.digits ∷ ts) (behind_is names whole h.fields h.last body x.fields)

-- ---- flat forms

four : (n : ℕ) → length (to_be_bytes w32 n) ≡ 4
four n = refl

-- a whole one is cut into the head and the body, and the trailer
whole_left : (names : NameRules) (part : Part) (before trailer : List ℕ) → length trailer < 2 ^ 32
    → left_at names part true (before ++ with_length trailer) first ≡ head_tokens names part true before ++ trailer_tokens names trailer
whole_left names part before trailer small =
    let flat = before ++ with_length trailer in
    let number = to_be_bytes w32 (length trailer) in
    let end = end_at before trailer small in
    let text : front true flat ≡ before = ap (λ n. take n flat) end ∙ take-append-le (length before) before (with_length trailer) (omega arith) ∙ take_all (length before) before (omega arith) in
    let joined : flat ≡ (before ++ trailer) ++ number = sym (append_assoc before trailer number) in
    let size : length flat - 4 ≡ length (before ++ trailer) = omega (arith, ap length joined, length-append (before ++ trailer) number, four (length trailer)) in
    let rest : unnumbered true flat ≡ before ++ trailer =
    ap (λ n. take n flat) size ∙ ap (λ (t : List ℕ). take (length (before ++ trailer)) t) joined
    ∙ take-append-le (length (before ++ trailer)) (before ++ trailer) number (omega arith) ∙ take_all (length (before ++ trailer)) (before ++ trailer) (omega arith) in
    let last : trailer_in true flat ≡ trailer = ap (λ n. drop n (unnumbered true flat)) end ∙ ap (λ (t : List ℕ). drop (length before) t) rest ∙ drop_at before trailer (length before) refl in
    ap (λ (t : List ℕ). head_tokens names part true t ++ trailer_left names true flat) text
    ∙ ap (λ (t : List ℕ). head_tokens names part true before ++ trailer_tokens names t) last

part_left : (names : NameRules) (part : Part) (flat : List ℕ) → left_at names part false flat first ≡ head_tokens names part false flat
part_left names part flat = append-nil (head_tokens names part false (take (length flat) flat)) ∙ ap (head_tokens names part false) (take_all (length flat) flat (omega arith))

-- ---- trailers

trailer_is : (names : NameRules) (fields : List Field) (last : LineEnd) → All IsField fields → trailer_tokens names (print_section fields last) ≡ flat_map (told names) fields
trailer_is names [] last all =
    let m = mark_line last [] in
    let text : print_end last ++ [] ≡ print_section [] last = append-nil (print_end last) in
    ap (trailer_tokens names) (sym text)
    ∙ opened names (print_end last ++ []) m.1.has
    ∙ ap (λ t. cond t [] (field_tokens names (line_of (print_end last ++ [])) ++ trailer_tokens names (behind_line (print_end last ++ [])))) (ap is_blank m.1.line_is ∙ m.2)
trailer_is names (f ∷ fields) last all =
    let x = All-head IsField f fields all in
    let rest = print_section fields last in
    let line = line_for f f.end in
    let text = line ++ 10 ∷ rest in
    let there = line_there line rest (line_plain f f.end x) in
    let split : print_section (f ∷ fields) last ≡ text = append_assoc (print_field f) (flat_map print_field fields) (print_end last) ∙ printed_line f rest in
    ap (trailer_tokens names) split
    ∙ told_line names text there.has (ap is_blank there.line_is ∙ not_blank f f.end x)
    ∙ ap (λ (l : List ℕ). field_tokens names l ++ trailer_tokens names (behind_line text)) there.line_is
    ∙ ap (λ (r : List ℕ). field_tokens names line ++ trailer_tokens names r) there.behind
    ∙ ap (λ ts. ts ++ trailer_tokens names rest) (field_told names f x)
    ∙ ap (λ ts. told names f ++ ts) (trailer_is names fields last (All-tail IsField f fields all))

-- ---- the law

pub are_declared : (side : Side) (rules : NameRules) → AreDeclared side rules
are_declared side rules =
    record {
      request = λ phase note unit body trailer h x small flat.
          ap (λ (t : List ℕ). left_at rules Request true t first) (flat ∙ sym (append_assoc (print_request h) body (with_length trailer)))
          ∙ whole_left rules Request (print_request h ++ body) trailer small
          ∙ ap (λ ts. ts ++ trailer_tokens rules trailer) (request_head rules true h body x);
      reply = λ phase note unit body trailer h x small flat.
          ap (λ (t : List ℕ). left_at rules Reply true t first) (flat ∙ sym (append_assoc (print_response h) body (with_length trailer)))
          ∙ whole_left rules Reply (print_response h ++ body) trailer small
          ∙ ap (λ ts. ts ++ trailer_tokens rules trailer) (reply_head rules true h body x);
      request_part = λ phase note unit body h x flat.
          ap (λ (t : List ℕ). left_at rules Request false t first) flat ∙ part_left rules Request (print_request h ++ body) ∙ request_head rules false h body x;
      reply_part = λ phase note unit body h x flat.
          ap (λ (t : List ℕ). left_at rules Reply false t first) flat ∙ part_left rules Reply (print_response h ++ body) ∙ reply_head rules false h body x;
      headless = λ part phase note unit flat. ap (λ (t : List ℕ). left_at rules part false t first) flat ∙ part_left rules part [];
      trailer = trailer_is rules;
      no_trailer = refl;
    }
