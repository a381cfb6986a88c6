-- What the tokens of a head are, in the words of the grammar of heads: those of its fields, the head mark, and those of
-- the body.
use Rattle.std.proofs.Common.{◌≡◌, ℕ, ◌+◌, ◌<◌, Bool, true, false, cond, not, IsTrue, List, [], ◌∷◌, ◌++◌, length, take, drop, append_assoc, length-append, refl, sym, ap, ◌∙◌, arith}
use Rattle.std.specs.Prelude.{◌==◌, ◌&&◌, ◌||◌, All, bytes_eq, codes, if◌then◌else◌, Option, Some, None, unwrap_or}
use Rattle.std.specs.Char.{to_ascii_lowercase}
use Rattle.std.specs.List.{flat_map, list_any, prefix_len}
use Rattle.std.specs.Str.{str_to_ascii_lowercase}
use Rattle.std.proofs.lemmas.Bool.Decides.{nat_tests}
use Rattle.std.proofs.lemmas.List.{take-append-le, take_all, drop_at, length-map}
use Rattle.std.proofs.lemmas.Slice.Eq.{bytes_eq-Decides}
use Rattle.std.proofs.lemmas.List.Elements.{All-head, All-tail, All-nil, All-cons, All-append, All-weaker}
use Rattle.httparse.specs.Grammar.{is_token_byte, is_value_byte, AllPass, LineEnd, crlf, lf, print_end, Field, IsField, print_field, field_value, trim_ows}
use Rattle.httparse.proofs.PieceLemmas.{print_field-append, colon_ends_token}
use Rattle.rd_base.specs.Token.{Token, token}
use Rattle.rd_base.specs.declared.values.TokenKind.TheVariants.{Firm, Name}
use Rattle.rd_base.specs.declared.names.NameRules.{NameRules}
use Rattle.rd_body_tokens.specs.declared.place.BodyKind.{BodyKind}
use Rattle.rd_body_tokens.specs.declared.place.Place.TheVariants.{Fresh}
use Rattle.rd_http_frame.proofs.HeadLines.{is_plain, token_is_plain, value_is_plain}
use Rattle.rd_http_tokens.specs.declared.stage.Standing.TheVariants.{Plain}
use Rattle.rd_http_tokens.specs.declared.stage.Stated.{Stated}
use Rattle.rd_http_tokens.specs.Tokens.{unstated, is_type, line_len, has_line, line_of, behind_line, is_blank, without_cr, name_len, name_of, value_of, standing, value_words, field_tokens, state, body_kind, body_tokens, lines, kind_of_type, media_type, is_passed}
use Rattle.rd_http_tokens.specs.HeadTokens.{told, first_kind, is_coding, behind_start}
use Rattle.rd_http_tokens.specs.Steps.{opened}
use Rattle.rd_http_tokens.proofs.Values.{cr_last}

-- ---- in the grammar's words

-- a line of this name and value says the same of a body's kind as this field
abbrev pub line_for : Field → LineEnd → List ℕ
line_for f crlf = f.name ++ 58 ∷ (f.raw ++ 13 ∷ [])
line_for f lf = f.name ++ 58 ∷ f.raw

abbrev pub stated_by : Stated → List Field → Stated
stated_by stated [] = stated
stated_by stated (f ∷ fields) = stated_by (state stated (line_for f f.end)) fields

-- ---- runs

pub run_len : (p : ℕ → Bool) (w : List ℕ) (b : ℕ) (rest : List ℕ) → AllPass p w → p b ≡ false → prefix_len p (w ++ b ∷ rest) ≡ length w
run_len p [] b rest all stop = ap (λ t. cond t (1 + prefix_len p rest) 0) stop
run_len p (x ∷ w) b rest all stop =
    ap (λ t. cond t (1 + prefix_len p (w ++ b ∷ rest)) 0) (All-head (λ v. p v ≡ true) x w all) ∙ ap (λ n. 1 + n) (run_len p w b rest (All-tail (λ v. p v ≡ true) x w all) stop) ∙ omega arith

pub record IsLine (text line rest : List ℕ) : Type 0 where
  pub has : has_line text ≡ true
  pub line_is : line_of text ≡ line
  pub behind : behind_line text ≡ rest

pub line_there : (line rest : List ℕ) → AllPass is_plain line → IsLine (line ++ 10 ∷ rest) line rest
line_there line rest all =
    let len : line_len (line ++ 10 ∷ rest) ≡ length line = run_len _ line 10 rest all refl in
    record {
      has = grind (arith, nat_tests, len, length-append line (10 ∷ rest));
      line_is = ap (λ n. take n (line ++ 10 ∷ rest)) len ∙ take-append-le (length line) line (10 ∷ rest) (omega arith) ∙ take_all (length line) line (omega arith);
      behind = ap (λ n. drop (n + 1) (line ++ 10 ∷ rest)) len ∙ ap (λ (t : List ℕ). drop (length line + 1) t) (sym (append_assoc line (10 ∷ []) rest)) ∙ drop_at (line ++ 10 ∷ []) rest (length line + 1) (length-append line (10 ∷ []));
    }

-- ---- fields

pub printed_line : (f : Field) (rest : List ℕ) → print_field f ++ rest ≡ line_for f f.end ++ 10 ∷ rest
printed_line f rest = print_field-append f rest ∙ by f.end
  where
    by : (e : LineEnd) → f.name ++ 58 ∷ (f.raw ++ (print_end e ++ rest)) ≡ line_for f e ++ 10 ∷ rest
    by crlf = ap (λ (t : List ℕ). f.name ++ 58 ∷ t) (sym (append_assoc f.raw (13 ∷ []) (10 ∷ rest))) ∙ sym (append_assoc f.name (58 ∷ (f.raw ++ 13 ∷ [])) (10 ∷ rest))
    by lf = sym (append_assoc f.name (58 ∷ f.raw) (10 ∷ rest))

pub line_plain : (f : Field) (e : LineEnd) → IsField f → AllPass is_plain (line_for f e)
line_plain f e x =
    let P : ℕ → Type 0 = λ v. IsTrue (is_plain v) in
    let name = All-weaker (λ v. IsTrue (is_token_byte v)) P token_is_plain f.name x.name.1 in
    let raw = All-weaker (λ v. IsTrue (is_value_byte v)) P value_is_plain f.raw x.raw in
    by name raw e
  where
    by : AllPass is_plain f.name → AllPass is_plain f.raw → (e : LineEnd) → AllPass is_plain (line_for f e)
    by name raw crlf = All-append (λ v. IsTrue (is_plain v)) f.name (58 ∷ (f.raw ++ 13 ∷ [])) name
        (All-cons (λ v. IsTrue (is_plain v)) 58 (f.raw ++ 13 ∷ []) refl (All-append (λ v. IsTrue (is_plain v)) f.raw (13 ∷ []) raw (All-cons (λ v. IsTrue (is_plain v)) 13 [] refl (All-nil _))))
    by name raw lf = All-append (λ v. IsTrue (is_plain v)) f.name (58 ∷ f.raw) name (All-cons (λ v. IsTrue (is_plain v)) 58 f.raw refl raw)

token_no_colon : (b : ℕ) → is_token_byte b ≡ true → not (b == 58) ≡ true
token_no_colon b h = by (b == 58) refl
  where
    by : (t : Bool) → (b == 58) ≡ t → not (b == 58) ≡ true
    by true e = let is : b ≡ 58 = grind (arith, nat_tests, e) in let bad : true ≡ false = sym h ∙ ap is_token_byte is ∙ colon_ends_token in absurd (cc bad)
    by false e = ap not e

field_name : (f : Field) (tail : List ℕ) → IsField f → (name_of (f.name ++ 58 ∷ tail) ≡ f.name) × (drop (name_len (f.name ++ 58 ∷ tail) + 1) (f.name ++ 58 ∷ tail) ≡ tail)
field_name f tail x =
    let len : name_len (f.name ++ 58 ∷ tail) ≡ length f.name = run_len _ f.name 58 tail (All-weaker (λ v. IsTrue (is_token_byte v)) (λ v. not (v == 58) ≡ true) token_no_colon f.name x.name.1) refl in (
      ap (λ n. take n (f.name ++ 58 ∷ tail)) len ∙ take-append-le (length f.name) f.name (58 ∷ tail) (omega arith) ∙ take_all (length f.name) f.name (omega arith),
      ap (λ n. drop (n + 1) (f.name ++ 58 ∷ tail)) len ∙ ap (λ (t : List ℕ). drop (length f.name + 1) t) (sym (append_assoc f.name (58 ∷ []) tail)) ∙ drop_at (f.name ++ 58 ∷ []) tail (length f.name + 1) (length-append f.name (58 ∷ [])),
    )

value_no_cr : (b : ℕ) → IsTrue (is_value_byte b) → (b == 13) ≡ false
value_no_cr b h = grind (arith, nat_tests, h)

raw_stays : (raw : List ℕ) → AllPass is_value_byte raw → without_cr raw ≡ raw
raw_stays [] all = refl
raw_stays (b ∷ []) all = ap (λ t. cond t [] (b ∷ [])) (value_no_cr b (All-head (λ v. IsTrue (is_value_byte v)) b [] all))
raw_stays (b ∷ c ∷ raw) all = ap (λ (t : List ℕ). b ∷ t) (raw_stays (c ∷ raw) (All-tail (λ v. IsTrue (is_value_byte v)) b (c ∷ raw) all))

name_is : (f : Field) (e : LineEnd) → IsField f → name_of (line_for f e) ≡ f.name
name_is f crlf x = (field_name f (f.raw ++ 13 ∷ []) x).0
name_is f lf x = (field_name f f.raw x).0

value_is : (f : Field) (e : LineEnd) → IsField f → value_of (line_for f e) ≡ field_value f
value_is f crlf x = ap (λ (t : List ℕ). trim_ows (without_cr t)) (field_name f (f.raw ++ 13 ∷ []) x).1 ∙ ap trim_ows (cr_last f.raw 13)
value_is f lf x = ap (λ (t : List ℕ). trim_ows (without_cr t)) (field_name f f.raw x).1 ∙ ap trim_ows (raw_stays f.raw x.raw)

pub not_blank : (f : Field) (e : LineEnd) → IsField f → is_blank (line_for f e) ≡ false
not_blank f e x = by f.name x.name.0 e
  where
    by : (name : List ℕ) → 0 < length name → (e : LineEnd) → is_blank (line_for (record { name = name; raw = f.raw; end = f.end }) e) ≡ false
    by [] some e = absurd (omega (arith, some))
    by (b ∷ []) some crlf = refl
    by (b ∷ []) some lf = refl
    by (b ∷ c ∷ name) some crlf = refl
    by (b ∷ c ∷ name) some lf = refl

pub field_told : (names : NameRules) (f : Field) → IsField f → field_tokens names (line_for f f.end) ≡ told names f
field_told names f x =
    ap (λ (n : List ℕ). cond (is_passed names n) [] (token Name n ∷ value_words (standing names n) (value_of (line_for f f.end)))) (name_is f f.end x)
    ∙ ap (λ (v : List ℕ). cond (is_passed names f.name) [] (token Name f.name ∷ value_words (standing names f.name) v)) (value_is f f.end x)

-- ---- heads

pub mark_line : (last : LineEnd) (rest : List ℕ) → (line : List ℕ) × IsLine (print_end last ++ rest) line rest × (is_blank line ≡ true)
mark_line crlf rest = (13 ∷ [], line_there (13 ∷ []) rest (All-cons (λ v. IsTrue (is_plain v)) 13 [] refl (All-nil _)), refl)
mark_line lf rest = ([], line_there [] rest (All-nil _), refl)

-- the fields of a head, its empty line and a body
pub declared : (names : NameRules) (stated : Stated) (whole : Bool) (fields : List Field) (last : LineEnd) (body : List ℕ) → All IsField fields
    → lines names stated whole (flat_map print_field fields ++ (print_end last ++ body)) ≡ flat_map (told names) fields ++ (token Firm [] ∷ body_tokens names (body_kind (stated_by stated fields)) Plain whole Fresh body)
declared names stated whole [] last body all =
    let m = mark_line last body in
    let text = print_end last ++ body in
    opened names stated whole text m.1.has
    ∙ ap (λ t. cond t (token Firm [] ∷ body_tokens names (body_kind stated) Plain whole Fresh (behind_line text)) (field_tokens names (line_of text) ++ lines names (state stated (line_of text)) whole (behind_line text))) (ap is_blank m.1.line_is ∙ m.2)
    ∙ ap (λ (b : List ℕ). token Firm [] ∷ body_tokens names (body_kind stated) Plain whole Fresh b) m.1.behind
declared names stated whole (f ∷ fields) last body all =
    let x = All-head IsField f fields all in
    let rest = flat_map print_field fields ++ (print_end last ++ body) in
    let line = line_for f f.end in
    let text = line ++ 10 ∷ rest in
    let there = line_there line rest (line_plain f f.end x) in
    let later = declared names (state stated line) whole fields last body (All-tail IsField f fields all) in
    let split : (print_field f ++ flat_map print_field fields) ++ (print_end last ++ body) ≡ text = append_assoc (print_field f) (flat_map print_field fields) (print_end last ++ body) ∙ printed_line f rest in
    ap (lines names stated whole) split
    ∙ opened names stated whole text there.has
    ∙ ap (λ t. cond t (token Firm [] ∷ body_tokens names (body_kind stated) Plain whole Fresh (behind_line text)) (field_tokens names (line_of text) ++ lines names (state stated (line_of text)) whole (behind_line text))) (ap is_blank there.line_is ∙ not_blank f f.end x)
    ∙ ap (λ (l : List ℕ). field_tokens names l ++ lines names (state stated l) whole (behind_line text)) there.line_is
    ∙ ap (λ (b : List ℕ). field_tokens names line ++ lines names (state stated line) whole b) there.behind
    ∙ ap (λ ts. field_tokens names line ++ ts) later
    ∙ ap (λ (ts : List Token). ts ++ (flat_map (told names) fields ++ (token Firm [] ∷ body_tokens names (body_kind (stated_by (state stated line) fields)) Plain whole Fresh body))) (field_told names f x)
    ∙ sym (append_assoc (told names f) (flat_map (told names) fields) (token Firm [] ∷ body_tokens names (body_kind (stated_by (state stated line) fields)) Plain whole Fresh body))

-- ---- the kind of the body

-- no name is both
other_name : (name : List ℕ) → is_type (codes "content-type") name ≡ true → is_type (codes "content-encoding") name ≡ false
other_name name h = by (is_type (codes "content-encoding") name) refl
  where
    same : (other : List ℕ) → is_type other name ≡ true → length name ≡ length other
    same other e =
        sym (length-map name to_ascii_lowercase)
        ∙ ap length ((bytes_eq-Decides (str_to_ascii_lowercase name) (str_to_ascii_lowercase other)).0 e)
        ∙ length-map other to_ascii_lowercase

    by : (t : Bool) → is_type (codes "content-encoding") name ≡ t → is_type (codes "content-encoding") name ≡ false
    by true e = absurd (omega (arith, same (codes "content-type") h, same (codes "content-encoding") e))
    by false e = e

abbrev or_first : Option BodyKind → List Field → Option BodyKind
or_first None fields = first_kind fields
or_first (Some kind) fields = Some kind

abbrev said_by : Stated → List Field → Stated
said_by stated fields = record { kind = or_first stated.kind fields; coded = stated.coded || list_any is_coding fields }

-- what a field adds
abbrev stated_at : Stated → List ℕ → List ℕ → Stated
stated_at before name value =
    if is_type (codes "content-type") name then record { kind = Some (unwrap_or before.kind (kind_of_type (media_type value))); coded = before.coded }
    else if is_type (codes "content-encoding") name && not (bytes_eq value (codes "identity")) then record { kind = before.kind; coded = true }
    else before

state_is : (before : Stated) (f : Field) → IsField f → state before (line_for f f.end) ≡ stated_at before f.name (field_value f)
state_is before f x =
    ap (λ (n : List ℕ). stated_at before n (value_of (line_for f f.end))) (name_is f f.end x) ∙ ap (λ (v : List ℕ). stated_at before f.name v) (value_is f f.end x)

all_said : (stated : Stated) (fields : List Field) → All IsField fields → stated_by stated fields ≡ said_by stated fields
all_said stated [] all = by stated.kind stated.coded
  where
    plain : Option BodyKind → Bool → Stated
    plain kind coded = record { kind = kind; coded = coded }

    by : (kind : Option BodyKind) (coded : Bool) → plain kind coded ≡ said_by (plain kind coded) []
    by None true = refl
    by None false = refl
    by (Some kind) true = refl
    by (Some kind) false = refl
all_said stated (f ∷ fields) all =
    all_said (state stated (line_for f f.end)) fields (All-tail IsField f fields all)
    ∙ ap (λ (s : Stated). said_by s fields) (state_is stated f (All-head IsField f fields all))
    ∙ by stated.kind stated.coded (is_type (codes "content-type") f.name) refl (is_type (codes "content-encoding") f.name) refl
  where
    plain : Bool
    plain = not (bytes_eq (field_value f) (codes "identity"))

    by : (k : Option BodyKind) (c t : Bool) → is_type (codes "content-type") f.name ≡ t → (e : Bool) → is_type (codes "content-encoding") f.name ≡ e
        → said_by (stated_at (record { kind = k; coded = c }) f.name (field_value f)) fields ≡ said_by (record { kind = k; coded = c }) (f ∷ fields)
    by k c true p true q = let bad : true ≡ false = sym q ∙ other_name f.name p in absurd (cc bad)
    by None c true p false q = rw (p, q) refl
    by (Some other) c true p false q = rw (p, q) refl
    by k c false p e q = encoded k c p e q plain refl
      where
        encoded : (k : Option BodyKind) (c : Bool) → is_type (codes "content-type") f.name ≡ false → (e : Bool) → is_type (codes "content-encoding") f.name ≡ e → (n : Bool) → plain ≡ n
            → said_by (stated_at (record { kind = k; coded = c }) f.name (field_value f)) fields ≡ said_by (record { kind = k; coded = c }) (f ∷ fields)
        encoded None true p true q true s = rw (p, q, s) refl
        encoded None false p true q true s = rw (p, q, s) refl
        encoded (Some other) true p true q true s = rw (p, q, s) refl
        encoded (Some other) false p true q true s = rw (p, q, s) refl
        encoded None c p true q false s = rw (p, q, s) refl
        encoded (Some other) c p true q false s = rw (p, q, s) refl
        encoded None c p false q n s = rw (p, q) refl
        encoded (Some other) c p false q n s = rw (p, q) refl

-- the fields, the head mark and the body
pub behind_is : (names : NameRules) (whole : Bool) (fields : List Field) (last : LineEnd) (body : List ℕ) → All IsField fields
    → lines names unstated whole (flat_map print_field fields ++ (print_end last ++ body)) ≡ behind_start names whole fields body
behind_is names whole fields last body all =
    declared names unstated whole fields last body all
    ∙ ap (λ (s : Stated). flat_map (told names) fields ++ (token Firm [] ∷ body_tokens names (body_kind s) Plain whole Fresh body)) (all_said unstated fields all)
