-- One token after another: what holds of the bytes from a cursor on holds of a flat form, and of all that it becomes.
use Rattle.std.proofs.Common.{◌≡◌, ℕ, zero, suc, ◌+◌, ◌-◌, ◌<◌, ◌≤◌, Bool, true, false, cond, ltb-true, List, [], ◌∷◌, ◌++◌, length, take, drop, drop-drop, length-drop, append-nil, refl, sym, ap, ◌∙◌, arith}
use Rattle.std.specs.Prelude.{nat_le, slice_range}
use Rattle.std.proofs.lemmas.Bool.Decides.{nat_tests}
use Rattle.std.proofs.lemmas.List.{take-append-le, drop-append-le}
use Rattle.std.specs.List.{prefix_len}
use Rattle.rd_base.proofs.Cutting.{same_prefix}
use Rattle.rd_http_tokens.specs.declared.step.Found.{Found}
use Rattle.rd_base.specs.Token.{Token, token}
use Rattle.rd_base.specs.declared.values.TokenKind.TheVariants.{Firm, Name}
use Rattle.rd_base.specs.declared.values.TokenSpan.{TokenSpan}
use Rattle.rd_base.specs.declared.values.Part.{Part}
use Rattle.rd_body_tokens.specs.declared.place.BodyKind.{BodyKind}
use Rattle.rd_body_tokens.specs.declared.place.Place.{Place}
use Rattle.rd_body_tokens.specs.declared.place.Place.TheVariants.{Fresh}
use Rattle.rd_http_scan.specs.Ends.{body_end}
use Rattle.rd_base.specs.declared.names.NameRules.{NameRules}
use Rattle.rd_http_tokens.specs.declared.stage.Standing.{Standing}
use Rattle.rd_http_tokens.specs.declared.stage.Standing.TheVariants.{Plain}
use Rattle.rd_http_tokens.specs.declared.stage.Stated.{Stated}
use Rattle.rd_http_tokens.specs.declared.stage.Stage.{Stage}
use Rattle.rd_http_tokens.specs.declared.stage.Stage.TheVariants.{AtStart, AtLine, AtValue, AtBody, AtTrailerValue}
use Rattle.rd_http_tokens.specs.Tokens.{state, standing, value_words, line_len, has_line, line_of, behind_line, is_blank, name_of, value_of, field_tokens, body_kind, body_tokens, lines_by, lines, trailer_tokens, is_passed}
use Rattle.rd_http_tokens.specs.TokenLaws.{same_line}
use Rattle.rd_http_tokens.specs.HttpGrammar.{head_left, stage_left, reach, line_left, value_left}

-- a token stands at the front of a text, whatever follows it on a part
pub record Steps (f g : Bool → List ℕ → List Token) (whole : Bool) (text : List ℕ) (k : ℕ) (t : Token) : Type 0 where
  pub within : k ≤ length text
  pub here : f whole text ≡ t ∷ g whole (drop k text)
  pub on : whole ≡ false → (more : List ℕ) (all : Bool) → f all (text ++ more) ≡ t ∷ g all (drop k text ++ more)

-- no stage of a trailer
pub data IsOfHead : Stage → Type 0 where
  StartIs : IsOfHead AtStart
  LineIs : (stated : Stated) → IsOfHead (AtLine stated)
  ValueIs : (now : Standing) (count : ℕ) (stated : Stated) → IsOfHead (AtValue now count stated)
  BodyIs : (kind : BodyKind) (now : Standing) (place : Place) → IsOfHead (AtBody kind now place)

-- ---- lines

-- the fuel doesn't matter where there is enough
fuel : (m n : ℕ) (names : NameRules) (stated : Stated) (whole : Bool) (text : List ℕ) → length text ≤ m → length text ≤ n → lines_by m names stated whole text ≡ lines_by n names stated whole text
fuel zero zero names stated whole text a b = refl
fuel zero (suc n) names stated whole [] a b = refl
fuel zero (suc n) names stated whole (x ∷ text) a b = absurd (omega (arith, a))
fuel (suc m) zero names stated whole [] a b = refl
fuel (suc m) zero names stated whole (x ∷ text) a b = absurd (omega (arith, b))
fuel (suc m) (suc n) names stated whole text a b = by (λ le. fuel m n names (state stated (line_of text)) whole (behind_line text) (omega (arith, le, a)) (omega (arith, le, b))) (has_line text) refl
  where
    here : List Token
    here = field_tokens names (line_of text)

    one : Bool → List Token → List Token
    one t later = cond t (cond (is_blank (line_of text)) (token Firm [] ∷ body_tokens names (body_kind stated) Plain whole Fresh (behind_line text)) (here ++ later)) []

    by : (length (behind_line text) < length text → lines_by m names (state stated (line_of text)) whole (behind_line text) ≡ lines_by n names (state stated (line_of text)) whole (behind_line text))
        → (t : Bool) → has_line text ≡ t → lines_by (suc m) names stated whole text ≡ lines_by (suc n) names stated whole text
    by ih true e =
        let lt : line_len text < length text = ltb-true (line_len text) (length text) e in
        ap (one (has_line text)) (ih (omega (arith, lt, length-drop (line_len text + 1) text)))
    by ih false e = rw e refl

-- the first line of a text that has one
pub opened : (names : NameRules) (stated : Stated) (whole : Bool) (text : List ℕ) → has_line text ≡ true
    → lines names stated whole text
    ≡ cond (is_blank (line_of text)) (token Firm [] ∷ body_tokens names (body_kind stated) Plain whole Fresh (behind_line text)) (field_tokens names (line_of text) ++ lines names (state stated (line_of text)) whole (behind_line text))
opened names stated whole text h = by text h
  where
    by : (text : List ℕ) → has_line text ≡ true
        → lines names stated whole text
        ≡ cond (is_blank (line_of text)) (token Firm [] ∷ body_tokens names (body_kind stated) Plain whole Fresh (behind_line text)) (field_tokens names (line_of text) ++ lines names (state stated (line_of text)) whole (behind_line text))
    by [] h = absurd (cc h)
    by (x ∷ text) h =
        let all = x ∷ text in
        let lt : line_len all < length all = ltb-true (line_len all) (length all) h in
        let same = fuel (length text) (length (behind_line all)) names (state stated (line_of all)) whole (behind_line all) (omega (arith, lt, length-drop (line_len all + 1) all)) (omega arith) in
        rw h (ap (λ later. cond (is_blank (line_of all)) (token Firm [] ∷ body_tokens names (body_kind stated) Plain whole Fresh (behind_line all)) (field_tokens names (line_of all) ++ later)) same)

-- the head mark
pub mark_steps : (names : NameRules) (part : Part) (stated : Stated) (whole : Bool) (text : List ℕ) → has_line text ≡ true → is_blank (line_of text) ≡ true
    → Steps (head_left names part (AtLine stated)) (head_left names part (AtBody (body_kind stated) Plain Fresh)) whole text (line_len text + 1) (token Firm [])
mark_steps names part stated whole text h blank =
    let lt : line_len text < length text = ltb-true (line_len text) (length text) h in
    record {
      within = omega (arith, lt);
      here = opened names stated whole text h ∙ ap (λ t. cond t (token Firm [] ∷ body_tokens names (body_kind stated) Plain whole Fresh (behind_line text)) (field_tokens names (line_of text) ++ lines names (state stated (line_of text)) whole (behind_line text))) blank;
      on = λ part_only more all.
          let same = same_line text more h in
          opened names stated all (text ++ more) same.has
          ∙ rw (same.line, same.behind) (ap (λ t. cond t (token Firm [] ∷ body_tokens names (body_kind stated) Plain all Fresh (behind_line text ++ more)) (field_tokens names (line_of text) ++ lines names (state stated (line_of text)) all (behind_line text ++ more))) blank);
    }

-- a field that is passed: what is before its line is before the next one
pub passed : (names : NameRules) (stated : Stated) (text more : List ℕ) (whole : Bool) → has_line text ≡ true → is_blank (line_of text) ≡ false → is_passed names (name_of (line_of text)) ≡ true
    → lines names stated whole (text ++ more) ≡ lines names (state stated (line_of text)) whole (behind_line text ++ more)
passed names stated text more whole h blank pass =
    let same = same_line text more h in
    let rest = lines names (state stated (line_of text)) whole (behind_line text ++ more) in
    opened names stated whole (text ++ more) same.has
    ∙ rw (same.line, same.behind) (
    ap (λ t. cond t (token Firm [] ∷ body_tokens names (body_kind stated) Plain whole Fresh (behind_line text ++ more)) (field_tokens names (line_of text) ++ rest)) blank
    ∙ ap (λ t. cond t [] (token Name (name_of (line_of text)) ∷ value_words (standing names (name_of (line_of text))) (value_of (line_of text))) ++ rest) pass
    )

-- ---- the token that a call found

pub record IsFound (names : NameRules) (f : Bool → List ℕ → List Token) (whole : Bool) (text : List ℕ) (found : Found) : Type 0 where
  pub ordered : found.start ≤ found.end
  pub within : found.end ≤ length text
  pub room : found.next + reach found.stage ≤ length text
  pub head : IsOfHead found.stage
  pub steps : (part : Part) → Steps f (head_left names part found.stage) whole text found.next (token found.kind (slice_range text found.start found.end))

abbrev pub span_of : Found → TokenSpan
span_of found = record { kind = found.kind; start = found.start; end = found.end }

abbrev pub shifted : ℕ → Found → Found
shifted at found = record { kind = found.kind; start = at + found.start; end = at + found.end; next = at + found.next; stage = found.stage }

-- what is before a text is before what follows it
abbrev pub Goes : NameRules → Stated → Stated → List ℕ → ℕ → Type 0
Goes names stated said text at = (more : List ℕ) (all : Bool) → lines names stated all (text ++ more) ≡ lines names said all (drop at text ++ more)

-- ---- places in a line

prefix_drop : (p : ℕ → Bool) (n : ℕ) (xs : List ℕ) → n ≤ prefix_len p xs → prefix_len p (drop n xs) ≡ prefix_len p xs - n
prefix_drop p zero xs le = omega arith
prefix_drop p (suc n) [] le = omega arith
prefix_drop p (suc n) (x ∷ xs) le = by (p x) (prefix_drop p n xs) le
  where
    by : (t : Bool) → (n ≤ prefix_len p xs → prefix_len p (drop n xs) ≡ prefix_len p xs - n) → suc n ≤ cond t (1 + prefix_len p xs) 0 → prefix_len p (drop n xs) ≡ cond t (1 + prefix_len p xs) 0 - suc n
    by true ih le = omega (arith, ih (omega (arith, le)))
    by false ih le = absurd (omega (arith, le))

pub record IsFurther (text : List ℕ) (n : ℕ) : Type 0 where
  pub has : has_line (drop n text) ≡ true
  pub behind : behind_line (drop n text) ≡ behind_line text

pub further : (text : List ℕ) (n : ℕ) → has_line text ≡ true → n ≤ line_len text → IsFurther text n
further text n h le =
    let lt : line_len text < length text = ltb-true (line_len text) (length text) h in
    let same : line_len (drop n text) ≡ line_len text - n = prefix_drop _ n text le in
    let sum : n + (line_len text - n + 1) ≡ line_len text + 1 = omega arith in
    record {
      has = grind (arith, nat_tests, same, lt, le, length-drop n text);
      behind = ap (λ k. drop (k + 1) (drop n text)) same ∙ drop-drop (line_len text - n + 1) n text ∙ ap (λ k. drop k text) sum;
    }

-- ---- fields that are told

told_line : (names : NameRules) (stated : Stated) (whole : Bool) (text : List ℕ) → has_line text ≡ true → is_blank (line_of text) ≡ false → is_passed names (name_of (line_of text)) ≡ false
    → lines names stated whole text
    ≡ token Name (name_of (line_of text)) ∷ (value_words (standing names (name_of (line_of text))) (value_of (line_of text)) ++ lines names (state stated (line_of text)) whole (behind_line text))
told_line names stated whole text h blank told =
    let line = line_of text in
    let rest = lines names (state stated line) whole (behind_line text) in
    opened names stated whole text h
    ∙ ap (λ t. cond t (token Firm [] ∷ body_tokens names (body_kind stated) Plain whole Fresh (behind_line text)) (field_tokens names line ++ rest)) blank
    ∙ ap (λ t. cond t [] (token Name (name_of line) ∷ value_words (standing names (name_of line)) (value_of line)) ++ rest) told

-- a value that is there
pub value_there : (now : Standing) (count : ℕ) (text : List ℕ) (f : List ℕ → List Token) → count ≤ length text → has_line (drop count text) ≡ true
    → value_left now count text f ≡ value_words now (take count text) ++ f (behind_line (drop count text))
value_there now count text f le h =
    let words = value_words now (take count text) in
    let fits : nat_le count (length text) ≡ true = grind (arith, nat_tests, le) in
    ap (λ b. cond b (words ++ line_left (drop count text) f) []) fits
    ∙ ap (λ b. words ++ cond b (f (behind_line (drop count text))) []) h

-- a value that stands in a line of a text, and what follows the line
pub value_stands : (now : Standing) (k count : ℕ) (text : List ℕ) (f : List ℕ → List Token) (value : List ℕ) → has_line text ≡ true → k + count ≤ line_len text → take count (drop k text) ≡ value
    → value_words now value ++ f (behind_line text) ≡ value_left now count (drop k text) f
value_stands now k count text f value h room is =
    let ahead = further text (k + count) h room in
    let there : drop count (drop k text) ≡ drop (k + count) text = drop-drop count k text in
    let fits : count ≤ length (drop k text) = omega (arith, room, ltb-true (line_len text) (length text) h, length-drop k text) in
    ap (λ (v : List ℕ). value_words now v ++ f (behind_line text)) (sym is)
    ∙ ap (λ (b : List ℕ). value_words now (take count (drop k text)) ++ f b) (sym (ap behind_line there ∙ ahead.behind))
    ∙ sym (value_there now count (drop k text) f fits (ap has_line there ∙ ahead.has))

value_here : (names : NameRules) (part : Part) (stated : Stated) (whole : Bool) (text : List ℕ) (now : Standing) (k count : ℕ) → has_line text ≡ true → is_blank (line_of text) ≡ false → is_passed names (name_of (line_of text)) ≡ false
    → standing names (name_of (line_of text)) ≡ now → k + count ≤ line_len text → take count (drop k text) ≡ value_of (line_of text)
    → head_left names part (AtLine stated) whole text ≡ token Name (name_of (line_of text)) ∷ head_left names part (AtValue now count (state stated (line_of text))) whole (drop k text)
value_here names part stated whole text now k count h blank told stands room value =
    let line = line_of text in
    let rest = lines names (state stated line) whole in
    told_line names stated whole text h blank told
    ∙ ap (λ (s : Standing). token Name (name_of line) ∷ (value_words s (value_of line) ++ rest (behind_line text))) stands
    ∙ ap (λ (ts : List Token). token Name (name_of line) ∷ ts) (value_stands now k count text rest (value_of line) h room value)

pub value_begins : (names : NameRules) (part : Part) (stated : Stated) (whole : Bool) (text : List ℕ) (now : Standing) (k count : ℕ) → has_line text ≡ true → is_blank (line_of text) ≡ false → is_passed names (name_of (line_of text)) ≡ false
    → standing names (name_of (line_of text)) ≡ now → k + count ≤ line_len text → take count (drop k text) ≡ value_of (line_of text)
    → Steps (head_left names part (AtLine stated)) (head_left names part (AtValue now count (state stated (line_of text)))) whole text k (token Name (name_of (line_of text)))
value_begins names part stated whole text now k count h blank told stands room value =
    let lt : line_len text < length text = ltb-true (line_len text) (length text) h in
    record {
      within = omega (arith, lt, room);
      here = value_here names part stated whole text now k count h blank told stands room value;
      on = λ part_only more all.
          let same = same_line text more h in
          let later : drop k (text ++ more) ≡ drop k text ++ more = drop-append-le k text more (omega (arith, lt, room)) in
          let room_later : k + count ≤ line_len (text ++ more) = omega (arith, room, same_len text more h) in
          let value_later : take count (drop k (text ++ more)) ≡ value_of (line_of (text ++ more)) =
          ap (take count) later ∙ take-append-le count (drop k text) more (omega (arith, lt, room, length-drop k text)) ∙ value ∙ ap value_of (sym same.line) in
          value_here names part stated all (text ++ more) now k count same.has (ap is_blank same.line ∙ blank) (ap (λ (l : List ℕ). is_passed names (name_of l)) same.line ∙ told) (ap (λ (l : List ℕ). standing names (name_of l)) same.line ∙ stands) room_later value_later
          ∙ ap (λ (l : List ℕ). token Name (name_of l) ∷ head_left names part (AtValue now count (state stated l)) all (drop k (text ++ more))) same.line
          ∙ ap (λ (b : List ℕ). token Name (name_of (line_of text)) ∷ head_left names part (AtValue now count (state stated (line_of text))) all b) later;
    }
  where
    same_len : (text more : List ℕ) → has_line text ≡ true → line_len (text ++ more) ≡ line_len text
    same_len text more h = same_prefix _ text more (ltb-true (line_len text) (length text) h)

-- ---- behind lines that are passed

pub slice_drop : (text : List ℕ) (at s e : ℕ) → slice_range (drop at text) s e ≡ slice_range text (at + s) (at + e)
slice_drop text at s e =
    let size : e - s ≡ (at + e) - (at + s) = omega arith in
    ap (λ n. take n (drop s (drop at text))) size ∙ ap (take ((at + e) - (at + s))) (drop-drop s at text)

pub found_after : (names : NameRules) (f g : Bool → List ℕ → List Token) (whole : Bool) (text : List ℕ) (at : ℕ) (found : Found) → at ≤ length text
    → f whole text ≡ g whole (drop at text) → (whole ≡ false → (more : List ℕ) (all : Bool) → f all (text ++ more) ≡ g all (drop at text ++ more))
    → IsFound names g whole (drop at text) found → IsFound names f whole text (shifted at found)
found_after names f g whole text at found le now goes is =
    record {
      ordered = omega (arith, is.ordered);
      within = omega (arith, is.within, length-drop at text, le);
      room = omega (arith, is.room, length-drop at text, le);
      head = is.head;
      steps = λ part.
          let s = is.steps part in
          let t = token found.kind (slice_range (drop at text) found.start found.end) in
          let t_is : t ≡ token found.kind (slice_range text (at + found.start) (at + found.end)) = ap (token found.kind) (slice_drop text at found.start found.end) in
          let next : drop found.next (drop at text) ≡ drop (at + found.next) text = drop-drop found.next at text in
          record {
            within = omega (arith, s.within, length-drop at text, le);
            here = now ∙ s.here
                ∙ ap (λ (u : Token). u ∷ head_left names part found.stage whole (drop found.next (drop at text))) t_is
                ∙ ap (λ (x : List ℕ). token found.kind (slice_range text (at + found.start) (at + found.end)) ∷ head_left names part found.stage whole x) next;
            on = λ part_only more all.
                goes part_only more all ∙ s.on part_only more all
                ∙ ap (λ (u : Token). u ∷ head_left names part found.stage all (drop found.next (drop at text) ++ more)) t_is
                ∙ ap (λ (x : List ℕ). token found.kind (slice_range text (at + found.start) (at + found.end)) ∷ head_left names part found.stage all (x ++ more)) next;
          };
    }

pub found_behind : (names : NameRules) (f : Bool → List ℕ → List Token) (said : Stated) (whole : Bool) (text : List ℕ) (at : ℕ) (found : Found) → at ≤ length text
    → ((more : List ℕ) (all : Bool) → f all (text ++ more) ≡ lines names said all (drop at text ++ more))
    → IsFound names (λ all t. lines names said all t) whole (drop at text) found → IsFound names f whole text (shifted at found)
found_behind names f said whole text at found le goes is =
    found_after names f (λ all t. lines names said all t) whole text at found le
    (ap (λ (x : List ℕ). f whole x) (sym (append-nil text)) ∙ goes [] whole ∙ ap (λ (x : List ℕ). lines names said whole x) (append-nil (drop at text)))
    (λ part_only. goes) is

pub goes_begins : (names : NameRules) (stated : Stated) (text : List ℕ) → Goes names stated stated text 0
goes_begins names stated text more all = refl

pub goes_further : (names : NameRules) (stated said : Stated) (text : List ℕ) (at : ℕ) → Goes names stated said text at → has_line (drop at text) ≡ true → is_blank (line_of (drop at text)) ≡ false
    → is_passed names (name_of (line_of (drop at text))) ≡ true → Goes names stated (state said (line_of (drop at text))) text (at + line_len (drop at text) + 1)
goes_further names stated said text at goes h blank pass more all =
    let rest = drop at text in
    let place : at + (line_len rest + 1) ≡ at + line_len rest + 1 = omega arith in
    goes more all ∙ passed names said rest more all h blank pass
    ∙ ap (λ (x : List ℕ). lines names (state said (line_of rest)) all (x ++ more)) (drop-drop (line_len rest + 1) at text ∙ ap (λ n. drop n text) place)

-- without a line there is nothing
pub no_line : (names : NameRules) (stated : Stated) (whole : Bool) (text : List ℕ) → has_line text ≡ false → lines names stated whole text ≡ []
no_line names stated whole [] h = refl
no_line names stated whole (x ∷ text) h = rw h refl

pub none_behind : (names : NameRules) (stated said : Stated) (whole : Bool) (text : List ℕ) (at : ℕ) → Goes names stated said text at → has_line (drop at text) ≡ false → lines names stated whole text ≡ []
none_behind names stated said whole text at goes h =
    ap (λ (x : List ℕ). lines names stated whole x) (sym (append-nil text)) ∙ goes [] whole ∙ ap (λ (x : List ℕ). lines names said whole x) (append-nil (drop at text)) ∙ no_line names said whole (drop at text) h

-- ---- the token that a call found in a flat form

pub record IsFoundIn (names : NameRules) (part : Part) (whole : Bool) (flat : List ℕ) (at : ℕ) (stage : Stage) (found : Found) : Type 0 where
  pub ordered : found.start ≤ found.end
  pub within : found.end ≤ length flat
  pub room : found.next + reach found.stage ≤ length flat
  pub here : stage_left names part whole flat at stage ≡ token found.kind (slice_range flat found.start found.end) ∷ stage_left names part whole flat found.next found.stage
  -- of a part, whatever it becomes
  pub on : whole ≡ false → (more : List ℕ) (all : Bool) → length flat ≤ body_end all (flat ++ more)
      → stage_left names part all (flat ++ more) at stage ≡ token found.kind (slice_range flat found.start found.end) ∷ stage_left names part all (flat ++ more) found.next found.stage

-- the token that a call found in a trailer
pub record IsTrailing (names : NameRules) (f : List ℕ → List Token) (text : List ℕ) (found : Found) : Type 0 where
  pub ordered : found.start ≤ found.end
  pub within : found.end ≤ length text
  pub now : Standing
  pub count : ℕ
  pub room : found.next + count ≤ length text
  pub stage : found.stage ≡ AtTrailerValue now count
  pub here : f text ≡ token found.kind (slice_range text found.start found.end) ∷ value_left now count (drop found.next text) (trailer_tokens names)
