-- The line feeds of a request head.
use Rattle.std.proofs.Common.{◌≡◌, ℕ, suc, ◌+◌, ◌<◌, ◌≤◌, Bool, true, false, not, List, [], ◌∷◌, ◌++◌, length, take, drop, refl, sym, ap, ◌∙◌, arith, append_assoc, append-nil, codes, IsTrue, ◌==◌, ◌&&◌, nat_lt, inl, inr, slice_index, length-take}
use Rattle.std.specs.Prelude.{All}
use Rattle.std.proofs.lemmas.Bool.Decides.{nat_tests}
use Rattle.std.proofs.lemmas.Bool.{false≢true}
use Rattle.std.proofs.lemmas.List.Elements.{All-head, All-tail, All-nil, All-cons, All-weaker, All-append}
use Rattle.std.specs.List.{flat_map, prefix_len, list_all}
use Rattle.std.proofs.lemmas.List.Sums.{AllPass-from_list_all, list_all-from_AllPass}
use Rattle.std.proofs.lemmas.List.Folds.{list_all-append}
use Rattle.std.proofs.lemmas.Grind.{common_steps}
use Rattle.std.proofs.lemmas.List.{append_cancel_right, length-map}
use Rattle.httparse.specs.Grammar.{is_token_byte, is_uri_byte, is_value_byte, AllPass, IsToken, LineEnd, crlf, lf, print_end, print_blank, print_version, Field, IsField, print_field, RequestHead, IsRequestHead, print_request, ReadsRequest, EndsInTarget}
use Rattle.httparse.proofs.PieceLemmas.{token_is_no_newline, print_field-append, space_ends_token}
use Rattle.httparse.proofs.GrammarLemmas.{print_request-append}
use Rattle.httparse.specs.Spans.{RequestExceeds, IsRequestAt, header_bytes, name_and_value}
use Rattle.httparse.specs.declared.spans.RequestSpans.{RequestSpans}
use Rattle.httparse.specs.declared.spans.HeaderSpan.{HeaderSpan}
use Rattle.httparse.specs.Grammar.{MayBecomeRequest}
use Rattle.rd_http_frame.specs.Fronts.{within, fresh, line_feeds, is_break, front_len, after_front, is_in_target, goes_on, InTarget, NotInTarget, MayBegin}

-- a byte that ends no line
abbrev pub is_plain : ℕ → Bool
is_plain b = not (b == 10)

-- the bytes of a line but its end count nothing
pub feeds-word : (w rest : List ℕ) → AllPass is_plain w → line_feeds within (w ++ rest) ≡ line_feeds within rest
feeds-word [] rest h = refl
feeds-word (b ∷ w) rest h =
    let here : is_plain b ≡ true = All-head (λ v. is_plain v ≡ true) b w h in
    let more = feeds-word w rest (All-tail (λ v. is_plain v ≡ true) b w h) in
    grind (arith, nat_tests, here, more)

pub feeds-end : (e : LineEnd) (rest : List ℕ) → line_feeds within (print_end e ++ rest) ≡ suc (line_feeds fresh rest)
feeds-end crlf rest = refl
feeds-end lf rest = refl

pub token_is_plain : (b : ℕ) → is_token_byte b ≡ true → is_plain b ≡ true
token_is_plain b h = let n = token_is_no_newline b h in grind (arith, nat_tests, n)

token_starts_line : (b : ℕ) (rest : List ℕ) → is_token_byte b ≡ true → line_feeds fresh (b ∷ rest) ≡ line_feeds within rest
token_starts_line b rest h = let n = token_is_no_newline b h in grind (arith, nat_tests, n)

-- a value's bytes end no line
pub value_is_plain : (b : ℕ) → IsTrue (is_value_byte b) → is_plain b ≡ true
value_is_plain b h = grind (arith, nat_tests, h)

pub uri_is_plain : (b : ℕ) → IsTrue (is_uri_byte b) → is_plain b ≡ true
uri_is_plain b h = grind (arith, nat_tests, h)

-- a word that isn't empty begins its line, as a token
pub feeds-token : (w rest : List ℕ) → IsToken w → line_feeds fresh (w ++ rest) ≡ line_feeds within rest
feeds-token [] rest h = absurd (omega (arith, h.0))
feeds-token (b ∷ w) rest h =
    token_starts_line b (w ++ rest) (All-head (λ v. is_token_byte v ≡ true) b w h.1)
    ∙ feeds-word w rest (All-weaker (λ v. IsTrue (is_token_byte v)) (λ v. IsTrue (is_plain v)) token_is_plain w (All-tail (λ v. is_token_byte v ≡ true) b w h.1))

pub feeds-field : (f : Field) (rest : List ℕ) → IsField f → line_feeds fresh (print_field f ++ rest) ≡ suc (line_feeds fresh rest)
feeds-field f rest h =
    ap (λ (t : List ℕ). line_feeds fresh t) (print_field-append f rest)
    ∙ feeds-token f.name _ h.name
    ∙ feeds-word f.raw _ (All-weaker (λ v. IsTrue (is_value_byte v)) (λ v. IsTrue (is_plain v)) value_is_plain f.raw h.raw)
    ∙ feeds-end f.end rest

pub feeds-fields : (fs : List Field) (rest : List ℕ) → All IsField fs
    → line_feeds fresh (flat_map print_field fs ++ rest) ≡ length fs + line_feeds fresh rest
feeds-fields [] rest h = omega arith
feeds-fields (f ∷ fs) rest h =
    ap (λ (t : List ℕ). line_feeds fresh t) (append_assoc (print_field f) (flat_map print_field fs) rest)
    ∙ feeds-field f _ (All-head IsField f fs h)
    ∙ ap (λ (n : ℕ). suc n) (feeds-fields fs rest (All-tail IsField f fs h))
    ∙ omega arith

-- a head from its method on, with R in the place of its empty line
abbrev pub from_method : RequestHead → List ℕ → List ℕ
from_method h R =
    h.method ++ 32 ∷ (h.target ++ 32 ∷ (print_version h.minor ++ (print_end h.line_end ++ (flat_map print_field h.fields ++ R))))

pub version_is_plain : (minor : ℕ) → minor ≤ 1 → AllPass is_plain (print_version minor)
version_is_plain minor h = All-append (λ v. IsTrue (is_plain v)) (codes "HTTP/1.") ((48 + minor) ∷ [])
    (list_all_plain (codes "HTTP/1.") refl)
    (All-cons (λ v. IsTrue (is_plain v)) (48 + minor) [] (grind (arith, nat_tests, h)) (All-nil _))
  where
    list_all_plain : (w : List ℕ) → list_all is_plain w ≡ true → AllPass is_plain w
    list_all_plain w e = AllPass-from_list_all is_plain w e

abbrev pub after_line : RequestHead → List ℕ → List ℕ
after_line h R = flat_map print_field h.fields ++ R

abbrev pub from_version : RequestHead → List ℕ → List ℕ
from_version h R = print_version h.minor ++ (print_end h.line_end ++ after_line h R)

pub feeds-head : (h : RequestHead) (R : List ℕ) → IsRequestHead h
    → line_feeds within (from_method h R) ≡ suc (length h.fields + line_feeds fresh R)
feeds-head h R x =
    feeds-word h.method (32 ∷ (h.target ++ 32 ∷ from_version h R)) (All-weaker (λ v. IsTrue (is_token_byte v)) (λ v. IsTrue (is_plain v)) token_is_plain h.method x.method.1)
    ∙ feeds-word h.target (32 ∷ from_version h R) (All-weaker (λ v. IsTrue (is_uri_byte v)) (λ v. IsTrue (is_plain v)) uri_is_plain h.target x.target.1)
    ∙ feeds-word (print_version h.minor) (print_end h.line_end ++ after_line h R) (version_is_plain h.minor x.minor)
    ∙ feeds-end h.line_end (after_line h R)
    ∙ ap (λ (n : ℕ). suc n) (feeds-fields h.fields R x.fields)

-- ---- the front

pub after_front-break : (b : ℕ) (bytes : List ℕ) → is_break b ≡ true → after_front (b ∷ bytes) ≡ after_front bytes
after_front-break b bytes h = rw (h, drop-cons-add) refl
  where
    drop-cons-add : drop (1 + front_len bytes) (b ∷ bytes) ≡ drop (front_len bytes) bytes
    drop-cons-add = grind (arith, common_steps)

pub after_front-stop : (b : ℕ) (bytes : List ℕ) → is_break b ≡ false → after_front (b ∷ bytes) ≡ b ∷ bytes
after_front-stop b bytes h = rw h refl

pub after_blank : (es : List LineEnd) (b : ℕ) (bytes : List ℕ) → is_break b ≡ false
    → after_front (print_blank es ++ b ∷ bytes) ≡ b ∷ bytes
after_blank [] b bytes h = after_front-stop b bytes h
after_blank (crlf ∷ es) b bytes h = after_front-break 13 (10 ∷ (print_blank es ++ b ∷ bytes)) refl ∙ after_front-break 10 (print_blank es ++ b ∷ bytes) refl ∙ after_blank es b bytes h
after_blank (lf ∷ es) b bytes h = after_front-break 10 (print_blank es ++ b ∷ bytes) refl ∙ after_blank es b bytes h

token_is_no_break : (b : ℕ) → is_token_byte b ≡ true → is_break b ≡ false
token_is_no_break b h = token_is_no_newline b h

pub after_blank_token : (es : List LineEnd) (w rest : List ℕ) → IsToken w → after_front (print_blank es ++ (w ++ rest)) ≡ w ++ rest
after_blank_token es [] rest h = absurd (omega (arith, h.0))
after_blank_token es (b ∷ w) rest h =
    after_blank es b (w ++ rest) (token_is_no_break b (All-head (λ v. is_token_byte v ≡ true) b w h.1))

-- ---- the target

pub prefix_len-token : (w rest : List ℕ) → AllPass is_token_byte w → prefix_len is_token_byte (w ++ 32 ∷ rest) ≡ length w
prefix_len-token [] rest h = rw space_ends_token refl
prefix_len-token (b ∷ w) rest h =
    let here : is_token_byte b ≡ true = All-head (λ v. is_token_byte v ≡ true) b w h in
    rw here (ap (λ (n : ℕ). 1 + n) (prefix_len-token w rest (All-tail (λ v. is_token_byte v ≡ true) b w h)) ∙ omega arith)

pub drop-word : (w rest : List ℕ) (b : ℕ) → drop (length w + 1) (w ++ b ∷ rest) ≡ rest
drop-word [] rest b = refl
drop-word (x ∷ w) rest b = drop-suc w ∙ drop-word w rest b
  where
    drop-suc : (v : List ℕ) → drop (suc (length v) + 1) (x ∷ (v ++ b ∷ rest)) ≡ drop (length v + 1) (v ++ b ∷ rest)
    drop-suc v = grind (arith, common_steps)

pub index-word : (w rest : List ℕ) (b : ℕ) → slice_index (w ++ b ∷ rest) (length w) ≡ b
index-word w rest b = grind (arith, common_steps)

pub in_target-word : (w rest : List ℕ) → IsToken w → is_in_target (w ++ 32 ∷ rest) ≡ list_all goes_on rest
in_target-word w rest h =
    let n = prefix_len-token w rest h.1 in
    let some : nat_lt 0 (length w) ≡ true = grind (arith, nat_tests, h.0) in
    rw (n, some, index-word w rest 32, drop-word w rest 32) refl

uri_goes_on : (b : ℕ) → is_uri_byte b ≡ true → goes_on b ≡ true
uri_goes_on b h = grind (arith, nat_tests, h)

-- bytes that end in a target, as the grammar says it
pub in_target_of : (buf : List ℕ) → EndsInTarget buf → InTarget buf
in_target_of buf x =
    ap (λ (t : List ℕ). is_in_target t) (ap (λ (t : List ℕ). after_front t) (x.5 ∙ append_assoc (print_blank x.0) x.1 (32 ∷ x.2)) ∙ after_blank_token x.0 x.1 (32 ∷ x.2) x.3)
    ∙ in_target-word x.1 x.2 x.3
    ∙ list_all-from_AllPass goes_on x.2 (All-weaker (λ v. is_uri_byte v ≡ true) (λ v. goes_on v ≡ true) uri_goes_on x.2 x.4)

-- a head at the front does not end in its target
pub head_front : (buf : List ℕ) (h : RequestHead) (rest : List ℕ) → ReadsRequest buf h rest
    → after_front buf ≡ from_method h (print_end h.last ++ rest)
head_front buf h rest x =
    ap (λ (t : List ℕ). after_front t) (x.1 ∙ print_request-append h rest
    ∙ ap (λ (t : List ℕ). print_blank h.blank ++ (h.method ++ 32 ∷ (h.target ++ 32 ∷ (print_version h.minor ++ (print_end h.line_end ++ t)))))
    (append_assoc (flat_map print_field h.fields) (print_end h.last) rest))
    ∙ after_blank_token h.blank h.method (32 ∷ (h.target ++ 32 ∷ from_version h (print_end h.last ++ rest))) x.0.method

pub head_is_past_target : (buf : List ℕ) (h : RequestHead) (rest : List ℕ) → ReadsRequest buf h rest → is_in_target (after_front buf) ≡ false
head_is_past_target buf h rest x =
    rw (head_front buf h rest x, in_target-word h.method (h.target ++ 32 ∷ (print_version h.minor ++ (print_end h.line_end ++ (flat_map print_field h.fields ++ (print_end h.last ++ rest))))) x.0.method, list_all-append)
    (and_false (list_all goes_on h.target))
  where
    and_false : (b : Bool) → (b && false) ≡ false
    and_false true = refl
    and_false false = refl

-- ---- more fields than there is room for

abbrev pub body : RequestHead → List ℕ
body h = print_blank h.blank ++ from_method h []

regroup : (a b c d e f r : List ℕ) → (a ++ (b ++ 32 ∷ (c ++ 32 ∷ (d ++ (e ++ (f ++ [])))))) ++ r
    ≡ a ++ (b ++ 32 ∷ (c ++ 32 ∷ (d ++ (e ++ (f ++ r)))))
regroup a b c d e f r = simp (append_assoc, append-nil)

pub body-append : (h : RequestHead) (R : List ℕ) → body h ++ R ≡ print_blank h.blank ++ from_method h R
body-append h R = regroup (print_blank h.blank) h.method h.target (print_version h.minor) (print_end h.line_end) (flat_map print_field h.fields) R

pub printed : (h : RequestHead) (rest : List ℕ) → print_request h ++ rest ≡ body h ++ (print_end h.last ++ rest)
printed h rest =
    print_request-append h rest
    ∙ ap (λ (t : List ℕ). print_blank h.blank ++ (h.method ++ 32 ∷ (h.target ++ 32 ∷ (print_version h.minor ++ (print_end h.line_end ++ t)))))
    (append_assoc (flat_map print_field h.fields) (print_end h.last) rest)
    ∙ sym (body-append h (print_end h.last ++ rest))

pub cut : (before front : List ℕ) (last : LineEnd) → front ++ 10 ∷ [] ≡ before ++ print_end last
    → (R : List ℕ) × (front ≡ before ++ R)
cut before front lf e = ([], append_cancel_right front before (10 ∷ []) e ∙ sym (append-nil before))
cut before front crlf e = (13 ∷ [], append_cancel_right front (before ++ 13 ∷ []) (10 ∷ []) (e ∙ sym (append_assoc before (13 ∷ []) (10 ∷ []))))

-- the line feeds of bytes that begin with a head but for its empty line
pub feeds-body : (buf : List ℕ) (h : RequestHead) (R : List ℕ) → IsRequestHead h → buf ≡ body h ++ R
    → line_feeds within (after_front buf) ≡ suc (length h.fields + line_feeds fresh R)
feeds-body buf h R x e =
    ap (λ (t : List ℕ). line_feeds within (after_front t)) (e ∙ body-append h R)
    ∙ ap (λ (t : List ℕ). line_feeds within t) (after_blank_token h.blank h.method (32 ∷ (h.target ++ 32 ∷ from_version h R)) x.method)
    ∙ feeds-head h R x

pub exceeds_feeds : (room : ℕ) (buf : List ℕ) → RequestExceeds room buf → room + 1 < line_feeds within (after_front buf)
exceeds_feeds room buf x =
    let front = x.0 in
    let h = x.3 in
    let e : front ++ 10 ∷ [] ≡ body h ++ print_end h.last =
    x.4.1 ∙ printed h [] ∙ ap (λ (t : List ℕ). body h ++ t) (append-nil (print_end h.last)) in
    let c = cut (body h) front h.last e in
    let feeds = feeds-body buf h (c.0 ++ x.1) x.4.0
    (x.2 ∙ ap (λ (t : List ℕ). t ++ x.1) c.1 ∙ append_assoc (body h) c.0 x.1) in
    omega (arith, feeds, x.5)

-- ---- what the parser's answers give

pub open_by_partial : (buf : List ℕ) → NotInTarget buf → MayBecomeRequest buf → MayBegin buf
open_by_partial buf outside (inl x) = (x.0, x.1, [], x.2)
open_by_partial buf outside (inr x) = absurd (false≢true (sym outside ∙ in_target_of buf x))

-- as many fields as headers that cover them
pub fields_fit : (room : ℕ) (buf : List ℕ) (headers : List HeaderSpan) (r : RequestSpans) (h : RequestHead)
    → IsRequestAt buf headers r h → length headers ≤ room → length h.fields ≤ room
fields_fit room buf headers r h x fits =
    let same : length (take r.headers headers) ≡ length h.fields =
    sym (length-map (take r.headers headers) (header_bytes buf)) ∙ ap (λ (t : List (List ℕ × List ℕ)). length t) x.fields ∙ length-map h.fields name_and_value in
    omega (arith, same, fits, length-take r.headers headers)
