-- The tokens of a part's flat form begin those of all that it becomes, and there are no more of them than bytes.
use Rattle.std.proofs.Common.{◌≡◌, ℕ, zero, suc, ◌+◌, ◌<◌, ◌≤◌, Bool, true, false, cond, ltb-true, List, [], ◌∷◌, ◌++◌, length, take, drop, length-take, length-drop, length-append, append_assoc, refl, sym, ap, ◌∙◌, arith, reverse}
use Rattle.std.specs.Prelude.{◌==◌}
use Rattle.std.proofs.lemmas.Bool.Decides.{nat_tests}
use Rattle.std.proofs.lemmas.List.{take-append-le, drop-append-le, length-reverse}
use Rattle.std.specs.List.{position_or_len}
use Rattle.rd_base.specs.Token.{Token, token}
use Rattle.rd_base.specs.WordCut.{cut_words, onto_word, grown, firm, is_word_byte}
use Rattle.httparse.specs.Grammar.{is_ows, skip_ows, trim_ows}
use Rattle.rd_base.specs.declared.values.TokenKind.{TokenKind}
use Rattle.rd_base.specs.declared.values.TokenKind.TheVariants.{Soft, Firm, Name}
use Rattle.rd_base.specs.declared.values.Part.{Part}
use Rattle.rd_base.specs.declared.values.Part.TheVariants.{Request, Reply}
use Rattle.rd_base.proofs.Cutting.{same_prefix}
use Rattle.rd_dialect.specs.Laws.{IsFront}
use Rattle.rd_body_tokens.specs.declared.place.BodyKind.{BodyKind}
use Rattle.rd_body_tokens.specs.declared.place.BodyKind.TheVariants.{Words, Json, Form, Raw}
use Rattle.rd_body_tokens.specs.declared.place.Place.{Place}
use Rattle.rd_body_tokens.specs.declared.place.Place.TheVariants.{Fresh}
use Rattle.rd_body_tokens.specs.Tiles.{tiles}
use Rattle.rd_body_tokens.proofs.TileLaws.{tiles_online, tiles_few}
use Rattle.rd_http_frame.specs.Fronts.{after_front, front_len, is_break}
use Rattle.rd_base.specs.declared.names.NameRules.{NameRules}
use Rattle.rd_http_tokens.specs.declared.stage.Standing.{Standing}
use Rattle.rd_http_tokens.specs.declared.stage.Standing.TheVariants.{Plain, Fixed, Absent}
use Rattle.rd_http_tokens.specs.declared.stage.Stated.{Stated}
use Rattle.rd_http_tokens.specs.Tokens.{unstated, state, standing, value_words, named, named_by, standing_by, body_tokens, body_kind, line_len, has_line, line_of, behind_line, is_blank, field_tokens, lines_by, lines, head_tokens, start_tokens, made_firm, without_cr, name_of, name_len, value_of, value_token, trailer_by, up_to_space, behind_space, is_passed}

-- ---- fronts

all_more : (ts us rest : List Token) → us ≡ ts → IsFront ts (us ++ rest)
all_more ts us rest e = record { rest = rest; is = ap (λ (l : List Token). l ++ rest) (sym e) }

front_behind : (before ts us : List Token) → IsFront ts us → IsFront (before ++ ts) (before ++ us)
front_behind before ts us f = record { rest = f.rest; is = append_assoc before ts f.rest ∙ ap (λ (l : List Token). before ++ l) f.is }

front_one : (t : Token) (ts us : List Token) → IsFront ts us → IsFront (t ∷ ts) (t ∷ us)
front_one t ts us f = record { rest = f.rest; is = ap (λ (l : List Token). t ∷ l) f.is }

front_longer : (ts us more : List Token) → IsFront ts us → IsFront ts (us ++ more)
front_longer ts us more f = record { rest = f.rest ++ more; is = sym (append_assoc ts f.rest more) ∙ ap (λ (l : List Token). l ++ more) f.is }

-- ---- lines of a longer text

-- a line that is there
pub record SameLine (text more : List ℕ) : Type 0 where
  pub has : has_line (text ++ more) ≡ true
  pub line : line_of (text ++ more) ≡ line_of text
  pub behind : behind_line (text ++ more) ≡ behind_line text ++ more

pub same_line : (text more : List ℕ) → has_line text ≡ true → SameLine text more
same_line text more h =
    let lt : line_len text < length text = ltb-true (line_len text) (length text) h in
    let same : line_len (text ++ more) ≡ line_len text = same_prefix _ text more lt in
    record {
      has = grind (arith, nat_tests, same, lt, length-append text more);
      line = ap (λ n. take n (text ++ more)) same ∙ take-append-le (line_len text) text more (omega (arith, lt));
      behind = ap (λ n. drop (n + 1) (text ++ more)) same ∙ drop-append-le (line_len text + 1) text more (omega (arith, lt));
    }

-- ---- bodies

named_online : (names : NameRules) (now : Standing) (ts rest us : List Token) → ts ++ rest ≡ us → IsFront (named names now ts) (named names now us)
named_online names now [] rest us e = record { rest = named names now us; is = refl }
named_online names now (t ∷ ts) rest us e =
    let f = named_online names (standing_by names now t.kind t) ts rest (ts ++ rest) refl in
    let g = front_behind (named_by names now t.kind t) _ _ f in
    record { rest = g.rest; is = g.is ∙ ap (named names now) e }

pub body_online : (names : NameRules) (kind : BodyKind) (whole : Bool) (body more : List ℕ) → IsFront (body_tokens names kind Plain false Fresh body) (body_tokens names kind Plain whole Fresh (body ++ more))
body_online names Words whole body more = let r = tiles_online Words Fresh body more whole in record { rest = r.0; is = r.1 }
body_online names Json whole body more = let r = tiles_online Json Fresh body more whole in record { rest = r.0; is = r.1 }
body_online names Form whole body more = let r = tiles_online Form Fresh body more whole in named_online names Plain _ r.0 _ r.1
body_online names Raw whole body more = let r = tiles_online Raw Fresh body more whole in record { rest = r.0; is = r.1 }

-- ---- heads

pub lines_online : (m n : ℕ) (names : NameRules) (stated : Stated) (whole : Bool) (text more : List ℕ) → m ≤ n → IsFront (lines_by m names stated false text) (lines_by n names stated whole (text ++ more))
lines_online zero n names stated whole text more le = record { rest = lines_by n names stated whole (text ++ more); is = refl }
lines_online (suc m) zero names stated whole text more le = absurd (omega (arith, le))
lines_online (suc m) (suc n) names stated whole text more le =
    by (lines_online m n names (state stated (line_of text)) whole (behind_line text) more (omega (arith, le))) (has_line text) refl
  where
    here : List Token
    here = field_tokens names (line_of text)

    one : Bool → ℕ → List ℕ → List Token
    one all most rest = cond (is_blank (line_of text)) (token Firm [] ∷ body_tokens names (body_kind stated) Plain all Fresh rest) (here ++ lines_by most names (state stated (line_of text)) all rest)

    blank : IsFront (lines_by m names (state stated (line_of text)) false (behind_line text)) (lines_by n names (state stated (line_of text)) whole (behind_line text ++ more))
        → (t : Bool) → IsFront (cond t (token Firm [] ∷ body_tokens names (body_kind stated) Plain false Fresh (behind_line text)) (here ++ lines_by m names (state stated (line_of text)) false (behind_line text)))
        (cond t (token Firm [] ∷ body_tokens names (body_kind stated) Plain whole Fresh (behind_line text ++ more)) (here ++ lines_by n names (state stated (line_of text)) whole (behind_line text ++ more)))
    blank ih true = front_one (token Firm []) _ _ (body_online names (body_kind stated) whole (behind_line text) more)
    blank ih false = front_behind here _ _ ih

    by : IsFront (lines_by m names (state stated (line_of text)) false (behind_line text)) (lines_by n names (state stated (line_of text)) whole (behind_line text ++ more))
        → (t : Bool) → has_line text ≡ t
        → IsFront (cond (has_line text) (cond (is_blank (line_of text)) (token Firm [] ∷ body_tokens names (body_kind stated) Plain false Fresh (behind_line text)) (here ++ lines_by m names (state stated (line_of text)) false (behind_line text))) [])
        (lines_by (suc n) names stated whole (text ++ more))
    by ih false e = record { rest = lines_by (suc n) names stated whole (text ++ more); is = rw e refl }
    by ih true e =
        let same = same_line text more e in
        rw (e, same.has, same.line, same.behind) (blank ih (is_blank (line_of text)))

pub after_front_more : (text more : List ℕ) → has_line (after_front text) ≡ true → after_front (text ++ more) ≡ after_front text ++ more
after_front_more text more h =
    let lt : line_len (after_front text) < length (after_front text) = ltb-true (line_len (after_front text)) (length (after_front text)) h in
    let inside : front_len text < length text = omega (arith, lt, length-drop (front_len text) text) in
    ap (λ n. drop n (text ++ more)) (same_prefix is_break text more inside) ∙ drop-append-le (front_len text) text more (omega (arith, inside))

pub head_online : (names : NameRules) (part : Part) (whole : Bool) (text more : List ℕ) → IsFront (head_tokens names part false text) (head_tokens names part whole (text ++ more))
head_online names part whole text more = by (has_line (after_front text)) refl
  where
    rest : List ℕ
    rest = behind_line (after_front text)

    by : (t : Bool) → has_line (after_front text) ≡ t → IsFront (head_tokens names part false text) (head_tokens names part whole (text ++ more))
    by false e = record { rest = head_tokens names part whole (text ++ more); is = rw e refl }
    by true e =
        let same = same_line (after_front text) more e in
        rw (after_front_more text more e, e, same.has, same.line, same.behind)
        (front_behind (start_tokens part (line_of (after_front text))) _ _ (lines_online (length rest) (length (rest ++ more)) names unstated whole rest more (omega (arith, length-append rest more))))

-- ---- numbers

onto_count : (b : ℕ) (ts : List Token) → length (onto_word b ts) ≤ suc (length ts)
onto_count b [] = omega arith
onto_count b (t ∷ ts) = by t.kind t.text
  where
    by : (kind : TokenKind) (text : List ℕ) → length (grown b kind text ts) ≤ suc (suc (length ts))
    by Soft text = omega arith
    by Firm text = omega arith
    by Name text = omega arith

words_few : (bytes : List ℕ) → length (cut_words bytes) ≤ length bytes
words_few [] = omega arith
words_few (b ∷ bytes) = by (is_word_byte b) (words_few bytes)
  where
    by : (t : Bool) → length (cut_words bytes) ≤ length bytes → length (cond t (onto_word b (cut_words bytes)) (firm b ∷ cut_words bytes)) ≤ suc (length bytes)
    by true h = omega (arith, onto_count b (cut_words bytes), h)
    by false h = omega (arith, h)

firm_same : (ts : List Token) → length (made_firm ts) ≡ length ts
firm_same [] = refl
firm_same (t ∷ ts) = ap (λ n. suc n) (firm_same ts)

value_few : (standing : Standing) (value : List ℕ) → length (value_words standing value) ≤ length value
value_few Plain value = words_few value
value_few Fixed value = omega (arith, firm_same (cut_words value), words_few value)
value_few Absent value = omega arith

cr_few : (text : List ℕ) → length (without_cr text) ≤ length text
cr_few [] = omega arith
cr_few (b ∷ []) = by (b == 13)
  where
    by : (t : Bool) → length (cond t [] (b ∷ [])) ≤ 1
    by true = omega arith
    by false = omega arith
cr_few (b ∷ c ∷ text) = omega (arith, cr_few (c ∷ text))

skip_few : (text : List ℕ) → length (skip_ows text) ≤ length text
skip_few [] = omega arith
skip_few (b ∷ text) = by (is_ows b) (skip_few text)
  where
    by : (t : Bool) → length (skip_ows text) ≤ length text → length (cond t (skip_ows text) (b ∷ text)) ≤ suc (length text)
    by true h = omega (arith, h)
    by false h = omega arith

trim_few : (text : List ℕ) → length (trim_ows text) ≤ length text
unfolding trim_ows
trim_few text = omega (arith, length-reverse (skip_ows (reverse (skip_ows text))), skip_few (reverse (skip_ows text)), length-reverse (skip_ows text), skip_few text)

field_few : (names : NameRules) (line : List ℕ) → length (field_tokens names line) ≤ length line + 1
field_few names line = by (is_passed names (name_of line))
  where
    behind : List ℕ
    behind = drop (name_len line + 1) line

    by : (t : Bool) → length (cond t [] (token Name (name_of line) ∷ value_words (standing names (name_of line)) (value_of line))) ≤ length line + 1
    by true = omega arith
    by false = omega (arith, value_few (standing names (name_of line)) (value_of line), trim_few (without_cr behind), cr_few behind, length-drop (name_len line + 1) line)

named_few : (names : NameRules) (now : Standing) (ts : List Token) → length (named names now ts) ≤ length ts
named_few names now [] = omega arith
named_few names now (t ∷ ts) =
    omega (arith, length-append (named_by names now t.kind t) (named names (standing_by names now t.kind t) ts), one t.kind, named_few names (standing_by names now t.kind t) ts)
  where
    value : (now : Standing) → length (value_token now t) ≤ 1
    value Plain = omega arith
    value Fixed = omega arith
    value Absent = omega arith

    one : (kind : TokenKind) → length (named_by names now kind t) ≤ 1
    one Soft = value now
    one Firm = omega arith
    one Name = omega arith

body_few : (names : NameRules) (kind : BodyKind) (now : Standing) (whole : Bool) (place : Place) (body : List ℕ) → length (body_tokens names kind now whole place body) ≤ length body
body_few names Words now whole place body = tiles_few Words whole place body
body_few names Json now whole place body = tiles_few Json whole place body
body_few names Form now whole place body = omega (arith, named_few names now (tiles Form whole place body), tiles_few Form whole place body)
body_few names Raw now whole place body = tiles_few Raw whole place body

behind_less : (text : List ℕ) → has_line text ≡ true → length text ≡ length (line_of text) + 1 + length (behind_line text)
behind_less text h =
    let lt : line_len text < length text = ltb-true (line_len text) (length text) h in
    omega (arith, lt, length-take (line_len text) text, length-drop (line_len text + 1) text)

lines_few : (m : ℕ) (names : NameRules) (stated : Stated) (whole : Bool) (text : List ℕ) → length (lines_by m names stated whole text) ≤ length text
lines_few zero names stated whole text = omega arith
lines_few (suc m) names stated whole text = by (lines_few m names (state stated (line_of text)) whole (behind_line text)) (has_line text) refl
  where
    here : List Token
    here = field_tokens names (line_of text)

    later : List Token
    later = lines_by m names (state stated (line_of text)) whole (behind_line text)

    blank : length text ≡ length (line_of text) + 1 + length (behind_line text) → length later ≤ length (behind_line text)
        → (t : Bool) → length (cond t (token Firm [] ∷ body_tokens names (body_kind stated) Plain whole Fresh (behind_line text)) (here ++ later)) ≤ length text
    blank size ih true = omega (arith, size, body_few names (body_kind stated) Plain whole Fresh (behind_line text))
    blank size ih false = omega (arith, size, ih, length-append here later, field_few names (line_of text))

    by : length later ≤ length (behind_line text) → (t : Bool) → has_line text ≡ t → length (cond (has_line text) (cond (is_blank (line_of text)) (token Firm [] ∷ body_tokens names (body_kind stated) Plain whole Fresh (behind_line text)) (here ++ later)) []) ≤ length text
    by ih true e = rw e (blank (behind_less text e) ih (is_blank (line_of text)))
    by ih false e = rw e (omega arith)

pub trailer_few : (m : ℕ) (names : NameRules) (text : List ℕ) → length (trailer_by m names text) ≤ length text
trailer_few zero names text = omega arith
trailer_few (suc m) names text = by (trailer_few m names (behind_line text)) (has_line text) refl
  where
    here : List Token
    here = field_tokens names (line_of text)

    later : List Token
    later = trailer_by m names (behind_line text)

    blank : length text ≡ length (line_of text) + 1 + length (behind_line text) → length later ≤ length (behind_line text) → (t : Bool) → length (cond t [] (here ++ later)) ≤ length text
    blank size ih true = omega arith
    blank size ih false = omega (arith, size, ih, length-append here later, field_few names (line_of text))

    by : length later ≤ length (behind_line text) → (t : Bool) → has_line text ≡ t → length (cond (has_line text) (cond (is_blank (line_of text)) [] (here ++ later)) []) ≤ length text
    by ih true e = rw e (blank (behind_less text e) ih (is_blank (line_of text)))
    by ih false e = rw e (omega arith)

start_few : (part : Part) (line : List ℕ) → length (start_tokens part line) ≤ length line + 1
start_few Request line =
    let behind = behind_space line in
    omega (arith, words_few (up_to_space behind), length-take (position_or_len (λ b. b == 32) behind) behind, length-drop (position_or_len (λ b. b == 32) line + 1) line)
start_few Reply line = omega arith

pub head_few : (names : NameRules) (part : Part) (whole : Bool) (text : List ℕ) → length (head_tokens names part whole text) ≤ length text
head_few names part whole text = by (has_line (after_front text)) refl
  where
    t0 : List ℕ
    t0 = after_front text

    here : List Token
    here = start_tokens part (line_of t0)

    later : List Token
    later = lines names unstated whole (behind_line t0)

    by : (t : Bool) → has_line t0 ≡ t → length (cond (has_line t0) (here ++ later) []) ≤ length text
    by true e = rw e (omega (arith, behind_less t0 e, length-append here later, start_few part (line_of t0), lines_few (length (behind_line t0)) names unstated whole (behind_line t0), length-drop (front_len text) text))
    by false e = rw e (omega arith)
