-- A head ends with its first empty line, and so does a trailer.
use Rattle.std.proofs.Common.{◌≡◌, ℕ, suc, ◌+◌, Bool, true, false, cond, List, [], ◌∷◌, ◌++◌, drop, slice_index, refl, sym, ap, ◌∙◌, arith, append_assoc, append-nil, IsTrue, ◌==◌, ◌⊎◌, inl, inr, if◌then◌else◌}
use Rattle.std.specs.Prelude.{All}
use Rattle.std.proofs.lemmas.Bool.Decides.{nat_tests}
use Rattle.std.proofs.lemmas.Bool.{false≢true, and_parts, eqb-true}
use Rattle.std.proofs.lemmas.List.Elements.{All-head, All-tail, All-weaker}
use Rattle.std.proofs.lemmas.List.{append_cancel_left}
use Rattle.std.specs.List.{flat_map, list_all, prefix_len}
use Rattle.std.specs.Char.{is_ascii_digit}
use Rattle.httparse.specs.Grammar.{is_token_byte, is_uri_byte, is_value_byte, AllPass, IsToken, LineEnd, crlf, lf, print_end, print_version, print_reason, Field, IsField, print_field, RequestHead, IsRequestHead, HasNoRequest, NeverHasRequest, ResponseHead, IsResponseHead, HasNoResponse, NeverHasResponse, HasNoSection, NeverHasSection}
use Rattle.httparse.proofs.PieceLemmas.{token_is_no_newline, print_field-append}
use Rattle.rd_base.specs.declared.values.Part.{Part}
use Rattle.rd_base.specs.declared.values.Part.TheVariants.{Request, Reply}
use Rattle.rd_http_frame.specs.Fronts.{within, fresh, after_cr, Place, has_empty, is_break, after_front, is_in_target, goes_on, NotInTarget}
use Rattle.rd_http_frame.specs.Heads.{seen}
use Rattle.rd_http_frame.specs.Heads.{IsRequestScan as request, IsReplyScan as reply}
use Rattle.rd_http_frame.specs.Trailers.{IsSectionScan as section}
use Rattle.rd_http_frame.specs.EmptyLines.{holds_empty_line, EmptyLineSettles, EmptyLineSettlesTrailer}
use Rattle.rd_http_frame.proofs.HeadLines.{is_plain, from_method, from_version, after_line, token_is_plain, value_is_plain, uri_is_plain, version_is_plain, after_front-break, after_front-stop, after_blank, after_blank_token, body, body-append, printed}
use Rattle.rd_http_frame.proofs.Replies.{from_digits, digit_is_plain, reason_is_plain, reply_body, reply_body-append, reply_printed}

-- ---- lines that aren't empty

empty-word : (w rest : List ℕ) → AllPass is_plain w → has_empty within (w ++ rest) ≡ has_empty within rest
empty-word [] rest h = refl
empty-word (b ∷ w) rest h =
    let here : is_plain b ≡ true = All-head (λ v. is_plain v ≡ true) b w h in
    let more = empty-word w rest (All-tail (λ v. is_plain v ≡ true) b w h) in
    grind (arith, nat_tests, here, more)

empty-end : (e : LineEnd) (rest : List ℕ) → has_empty within (print_end e ++ rest) ≡ has_empty fresh rest
empty-end crlf rest = refl
empty-end lf rest = refl

token_starts : (b : ℕ) (rest : List ℕ) → is_token_byte b ≡ true → has_empty fresh (b ∷ rest) ≡ has_empty within rest
token_starts b rest h = let n = token_is_no_newline b h in grind (arith, nat_tests, n)

empty-token : (w rest : List ℕ) → IsToken w → has_empty fresh (w ++ rest) ≡ has_empty within rest
empty-token [] rest h = absurd (omega (arith, h.0))
empty-token (b ∷ w) rest h =
    token_starts b (w ++ rest) (All-head (λ v. is_token_byte v ≡ true) b w h.1)
    ∙ empty-word w rest (All-weaker (λ v. IsTrue (is_token_byte v)) (λ v. IsTrue (is_plain v)) token_is_plain w (All-tail (λ v. is_token_byte v ≡ true) b w h.1))

empty-field : (f : Field) (rest : List ℕ) → IsField f → has_empty fresh (print_field f ++ rest) ≡ has_empty fresh rest
empty-field f rest h =
    ap (λ (t : List ℕ). has_empty fresh t) (print_field-append f rest)
    ∙ empty-token f.name (58 ∷ (f.raw ++ (print_end f.end ++ rest))) h.name
    ∙ empty-word f.raw (print_end f.end ++ rest) (All-weaker (λ v. IsTrue (is_value_byte v)) (λ v. IsTrue (is_plain v)) value_is_plain f.raw h.raw)
    ∙ empty-end f.end rest

empty-fields : (fs : List Field) (rest : List ℕ) → All IsField fs → has_empty fresh (flat_map print_field fs ++ rest) ≡ has_empty fresh rest
empty-fields [] rest h = refl
empty-fields (f ∷ fs) rest h =
    ap (λ (t : List ℕ). has_empty fresh t) (append_assoc (print_field f) (flat_map print_field fs) rest)
    ∙ empty-field f (flat_map print_field fs ++ rest) (All-head IsField f fs h)
    ∙ empty-fields fs rest (All-tail IsField f fs h)

empty-head : (h : RequestHead) (R : List ℕ) → IsRequestHead h → has_empty within (from_method h R) ≡ has_empty fresh R
empty-head h R x =
    empty-word h.method (32 ∷ (h.target ++ 32 ∷ from_version h R)) (All-weaker (λ v. IsTrue (is_token_byte v)) (λ v. IsTrue (is_plain v)) token_is_plain h.method x.method.1)
    ∙ empty-word h.target (32 ∷ from_version h R) (All-weaker (λ v. IsTrue (is_uri_byte v)) (λ v. IsTrue (is_plain v)) uri_is_plain h.target x.target.1)
    ∙ empty-word (print_version h.minor) (print_end h.line_end ++ after_line h R) (version_is_plain h.minor x.minor)
    ∙ empty-end h.line_end (after_line h R)
    ∙ empty-fields h.fields R x.fields

empty-reply : (h : ResponseHead) (R : List ℕ) → IsResponseHead h → has_empty within (print_version h.minor ++ 32 ∷ from_digits h R) ≡ has_empty fresh R
empty-reply h R x =
    empty-word (print_version h.minor) (32 ∷ from_digits h R) (version_is_plain h.minor x.minor)
    ∙ empty-word h.digits (print_reason h.reason ++ (print_end h.line_end ++ (flat_map print_field h.fields ++ R)))
    (All-weaker (λ v. is_ascii_digit v ≡ true) (λ v. is_plain v ≡ true) digit_is_plain h.digits x.digits.1)
    ∙ empty-word (print_reason h.reason) (print_end h.line_end ++ (flat_map print_field h.fields ++ R)) (reason_is_plain h.reason x.reason)
    ∙ empty-end h.line_end (flat_map print_field h.fields ++ R)
    ∙ empty-fields h.fields R x.fields

-- what comes before the last byte of a head or trailer has no empty line
abbrev before_feed : LineEnd → List ℕ
before_feed crlf = 13 ∷ []
before_feed lf = []

no_empty_before : (e : LineEnd) → has_empty fresh (before_feed e) ≡ false
no_empty_before crlf = refl
no_empty_before lf = refl

empty-body : (h : RequestHead) → IsRequestHead h → holds_empty_line (body h ++ before_feed h.last) ≡ false
empty-body h x =
    ap (λ (t : List ℕ). has_empty within (after_front t)) (body-append h (before_feed h.last))
    ∙ ap (λ (t : List ℕ). has_empty within t) (after_blank_token h.blank h.method (32 ∷ (h.target ++ 32 ∷ from_version h (before_feed h.last))) x.method)
    ∙ empty-head h (before_feed h.last) x
    ∙ no_empty_before h.last

empty-reply_body : (h : ResponseHead) → IsResponseHead h → holds_empty_line (reply_body h ++ before_feed h.last) ≡ false
empty-reply_body h x =
    ap (λ (t : List ℕ). has_empty within (after_front t)) (reply_body-append h (before_feed h.last))
    ∙ ap (λ (t : List ℕ). has_empty within t) (after_blank h.blank 72 (84 ∷ 84 ∷ 80 ∷ 47 ∷ 49 ∷ 46 ∷ (48 + h.minor) ∷ 32 ∷ from_digits h (before_feed h.last)) refl)
    ∙ empty-reply h (before_feed h.last) x
    ∙ no_empty_before h.last

-- ---- bytes that hold an empty line still do with more behind them

grow : (p : Place) (a b : List ℕ) → has_empty p a ≡ true → has_empty p (a ++ b) ≡ true
grow within [] b h = absurd (false≢true h)
grow fresh [] b h = absurd (false≢true h)
grow after_cr [] b h = absurd (false≢true h)
grow within (x ∷ a) b h = by_feed (x == 10) (grow fresh a b) (grow within a b) h
  where
    by_feed : (t : Bool) {p q r s : Bool} → (p ≡ true → q ≡ true) → (r ≡ true → s ≡ true) → (if t then p else r) ≡ true → (if t then q else s) ≡ true
    by_feed true f g k = f k
    by_feed false f g k = g k
grow fresh (x ∷ a) b h = by_both (x == 10) (x == 13) (grow after_cr a b) (grow within a b) h
  where
    by_both : (t u : Bool) {p q r s : Bool} → (p ≡ true → q ≡ true) → (r ≡ true → s ≡ true) → (if t then true else (if u then p else r)) ≡ true → (if t then true else (if u then q else s)) ≡ true
    by_both true u f g k = refl
    by_both false true f g k = f k
    by_both false false f g k = g k
grow after_cr (x ∷ a) b h = by_one (x == 10) (grow within a b) h
  where
    by_one : (t : Bool) {r s : Bool} → (r ≡ true → s ≡ true) → (if t then true else r) ≡ true → (if t then true else s) ≡ true
    by_one true g k = refl
    by_one false g k = g k

grow_front : (a b : List ℕ) → holds_empty_line a ≡ true → holds_empty_line (a ++ b) ≡ true
grow_front [] b h = absurd (false≢true h)
grow_front (x ∷ a) b h = at (grow_front a b) (is_break x) refl
  where
    at : (has_empty within (after_front a) ≡ true → has_empty within (after_front (a ++ b)) ≡ true)
        → (t : Bool) → is_break x ≡ t → has_empty within (after_front (x ∷ (a ++ b))) ≡ true
    at ih true e =
        ap (λ (t : List ℕ). has_empty within t) (after_front-break x (a ++ b) e)
        ∙ ih (ap (λ (t : List ℕ). has_empty within t) (sym (after_front-break x a e)) ∙ h)
    at ih false e =
        ap (λ (t : List ℕ). has_empty within t) (after_front-stop x (a ++ b) e)
        ∙ grow within (x ∷ a) b (ap (λ (t : List ℕ). has_empty within t) (sym (after_front-stop x a e)) ∙ h)

-- ---- what ends with its first empty line stands in bytes that hold one

-- of two ways to cut a text, one front begins the other
cuts : (a b c d : List ℕ) → a ++ b ≡ c ++ d → ((r : List ℕ) × (a ≡ c ++ r)) ⊎ ((r : List ℕ) × (c ≡ a ++ r))
cuts a b [] d e = inl (a, refl)
cuts [] b (y ∷ c) d e = inr (y ∷ c, refl)
cuts (x ∷ a) b (y ∷ c) d e = both (cuts a b c d (cc))
  where
    both : ((r : List ℕ) × (a ≡ c ++ r)) ⊎ ((r : List ℕ) × (c ≡ a ++ r))
        → ((r : List ℕ) × (x ∷ a ≡ y ∷ c ++ r)) ⊎ ((r : List ℕ) × (y ∷ c ≡ x ∷ a ++ r))
    both (inl z) = inl (z.0, cc)
    both (inr z) = inr (z.0, cc)

tail_is : (w : List ℕ) (e : LineEnd) (rest : List ℕ) → w ++ (print_end e ++ rest) ≡ (w ++ before_feed e) ++ 10 ∷ rest
tail_is w crlf rest = sym (append_assoc w (13 ∷ []) (10 ∷ rest))
tail_is w lf rest = sym (append_assoc w [] (10 ∷ rest))

-- bytes that go on behind a head's last byte but one
at_feed : (X buf more rest r : List ℕ) → buf ++ more ≡ X ++ 10 ∷ rest → buf ≡ X ++ r → (buf ≡ X) ⊎ ((s : List ℕ) × (buf ≡ X ++ 10 ∷ s))
at_feed X buf more rest [] e f = inl (f ∙ append-nil X)
at_feed X buf more rest (b ∷ r) e f =
    let same : (b ∷ r) ++ more ≡ 10 ∷ rest =
    append_cancel_left X ((b ∷ r) ++ more) (10 ∷ rest) (sym (append_assoc X (b ∷ r) more) ∙ ap (λ (t : List ℕ). t ++ more) (sym f) ∙ e) in
    let b_is : b ≡ 10 = cc in
    inr (r, f ∙ ap (λ (n : ℕ). X ++ n ∷ r) b_is)

-- a test that stays true with more bytes, and is false before the last byte of `front` and its line end
stands : (test : List ℕ → Bool) → ((a b : List ℕ) → test a ≡ true → test (a ++ b) ≡ true)
    → (buf more front rest : List ℕ) (e : LineEnd) → test (front ++ before_feed e) ≡ false → buf ++ more ≡ front ++ (print_end e ++ rest) → test buf ≡ true
    → (s : List ℕ) × (buf ≡ front ++ (print_end e ++ s))
stands test grows buf more front rest e none same holds = by_cut (cuts buf more X (10 ∷ rest) all)
  where
    X : List ℕ
    X = front ++ before_feed e

    all : buf ++ more ≡ X ++ 10 ∷ rest
    all = same ∙ tail_is front e rest

    by_feed : (buf ≡ X) ⊎ ((s : List ℕ) × (buf ≡ X ++ 10 ∷ s)) → (s : List ℕ) × (buf ≡ front ++ (print_end e ++ s))
    by_feed (inl z) = absurd (false≢true (sym (ap test z ∙ none) ∙ holds))
    by_feed (inr z) = (z.0, z.1 ∙ sym (tail_is front e z.0))

    by_cut : ((r : List ℕ) × (buf ≡ X ++ r)) ⊎ ((r : List ℕ) × (X ≡ buf ++ r)) → (s : List ℕ) × (buf ≡ front ++ (print_end e ++ s))
    by_cut (inl z) = by_feed (at_feed X buf more rest z.0 all z.1)
    by_cut (inr z) = absurd (false≢true (sym none ∙ ap test z.1 ∙ grows buf z.0 holds))

request_never : (buf : List ℕ) → holds_empty_line buf ≡ true → HasNoRequest buf → NeverHasRequest buf
request_never buf holds none more h rest x =
    let s = stands holds_empty_line grow_front buf more (body h) rest h.last (empty-body h x.0) (x.1 ∙ printed h rest) holds in
    none h s.0 (x.0, s.1 ∙ sym (printed h s.0))

reply_never : (buf : List ℕ) → holds_empty_line buf ≡ true → HasNoResponse buf → NeverHasResponse buf
reply_never buf holds none more h rest x =
    let s = stands holds_empty_line grow_front buf more (reply_body h) rest h.last (empty-reply_body h x.0) (x.1 ∙ reply_printed h rest) holds in
    none h s.0 (x.0, s.1 ∙ sym (reply_printed h s.0))

section_never : (buf : List ℕ) → has_empty fresh buf ≡ true → HasNoSection buf → NeverHasSection buf
section_never buf holds none more fields last rest x =
    let front = flat_map print_field fields in
    let split : buf ++ more ≡ front ++ (print_end last ++ rest) = x.1 ∙ append_assoc front (print_end last) rest in
    let before : has_empty fresh (front ++ before_feed last) ≡ false = empty-fields fields (before_feed last) x.0 ∙ no_empty_before last in
    let s = stands (has_empty fresh) (grow fresh) buf more front rest last before split holds in
    none fields last s.0 (x.0, s.1 ∙ sym (append_assoc front (print_end last) s.0))

-- ---- bytes that end in their target hold no empty line

plain_within : (b : ℕ) (rest : List ℕ) → is_plain b ≡ true → has_empty within (b ∷ rest) ≡ has_empty within rest
plain_within b rest h = grind (arith, nat_tests, h)

goes_on_plain : (b : ℕ) → goes_on b ≡ true → is_plain b ≡ true
goes_on_plain b h = grind (arith, nat_tests, h)

target_plain : (rest : List ℕ) → list_all goes_on rest ≡ true → has_empty within rest ≡ false
target_plain [] h = refl
target_plain (b ∷ rest) h =
    let parts = and_parts (goes_on b) (list_all goes_on rest) h in
    plain_within b rest (goes_on_plain b parts.0) ∙ target_plain rest parts.1

in_target_plain : (text : List ℕ) → (slice_index text (prefix_len is_token_byte text) == 32) ≡ true → list_all goes_on (drop (prefix_len is_token_byte text + 1) text) ≡ true → has_empty within text ≡ false
in_target_plain [] h k = refl
in_target_plain (b ∷ text) h k = by (in_target_plain text) (is_token_byte b) refl h k
  where
    by : ((slice_index text (prefix_len is_token_byte text) == 32) ≡ true → list_all goes_on (drop (prefix_len is_token_byte text + 1) text) ≡ true → has_empty within text ≡ false)
        → (t : Bool) → is_token_byte b ≡ t
        → (slice_index (b ∷ text) (cond t (1 + prefix_len is_token_byte text) 0) == 32) ≡ true
        → list_all goes_on (drop (cond t (1 + prefix_len is_token_byte text) 0 + 1) (b ∷ text)) ≡ true → has_empty within (b ∷ text) ≡ false
    by ih true e h k =
        let n = prefix_len is_token_byte text in
        let next : 1 + n ≡ suc n = omega arith in
        let there : 1 + n + 1 ≡ suc (n + 1) = omega arith in
        plain_within b text (token_is_plain b e)
        ∙ ih (ap (λ i. slice_index (b ∷ text) i == 32) (sym next) ∙ h) (ap (λ i. list_all goes_on (drop i (b ∷ text))) (sym there) ∙ k)
    by ih false e h k =
        let space : b ≡ 32 = eqb-true b 32 h in
        let one : 0 + 1 ≡ suc 0 = omega arith in
        plain_within b text (ap is_plain space) ∙ target_plain text (ap (λ i. list_all goes_on (drop i (b ∷ text))) (sym one) ∙ k)

past_target : (bytes : List ℕ) → holds_empty_line bytes ≡ true → NotInTarget bytes
past_target bytes holds = by (is_in_target (after_front bytes)) refl
  where
    text : List ℕ
    text = after_front bytes

    n : ℕ
    n = prefix_len is_token_byte text

    by : (t : Bool) → is_in_target text ≡ t → t ≡ false
    by false e = refl
    by true e =
        let outer = and_parts _ _ e in
        let inner = and_parts (slice_index text n == 32) (list_all goes_on (drop (n + 1) text)) outer.1 in
        absurd (false≢true (sym (in_target_plain text inner.0 inner.1) ∙ holds))

pub empty_line_settles : (part : Part) → EmptyLineSettles part
empty_line_settles Request = λ bytes holds fits none.
    request.Hopeless (fits, inr (past_target (seen bytes) holds, request_never (seen bytes) holds none)) refl
empty_line_settles Reply = λ bytes holds fits none. reply.Hopeless fits (reply_never (seen bytes) holds none) refl

pub empty_line_settles_trailer : EmptyLineSettlesTrailer
empty_line_settles_trailer bytes holds fits none = section.Hopeless fits (section_never (seen bytes) holds none) refl
