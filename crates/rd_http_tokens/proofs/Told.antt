-- The token at a line.
use Rattle.std.proofs.Common.{◌≡◌, ℕ, ◌+◌, ◌-◌, ◌<◌, ◌≤◌, Bool, true, false, List, [], length, take, drop, length-take, sym, ap, ◌∙◌, subst, arith}
use Rattle.std.specs.Prelude.{slice_range}
use Rattle.std.proofs.lemmas.Bool.Decides.{nat_tests}
use Rattle.std.proofs.lemmas.List.{take-take, drop-take}
use Rattle.rd_base.specs.Token.{Token, token}
use Rattle.rd_base.specs.declared.values.TokenKind.TheVariants.{Firm, Name}
use Rattle.rd_base.specs.declared.names.NameRules.{NameRules}
use Rattle.rd_body_tokens.specs.declared.place.BodyKind.{BodyKind}
use Rattle.rd_body_tokens.specs.declared.place.Place.TheVariants.{Fresh}
use Rattle.rd_http_tokens.specs.declared.stage.Standing.{Standing}
use Rattle.rd_http_tokens.specs.declared.stage.Standing.TheVariants.{Plain}
use Rattle.rd_http_tokens.specs.declared.stage.Stated.{Stated}
use Rattle.rd_http_tokens.specs.declared.stage.Stage.TheVariants.{AtLine, AtValue, AtBody}
use Rattle.rd_http_tokens.specs.Tokens.{lines, line_len, has_line, line_of, is_blank, name_of, name_len, value_of, state, standing, body_kind, is_passed}
use Rattle.rd_http_tokens.specs.HttpGrammar.{head_left}
use Rattle.rd_http_tokens.specs.Steps.{Steps, IsFound, ValueIs, BodyIs, mark_steps, value_begins}

pub has_it : (text : List ℕ) (len : ℕ) → len ≡ line_len text → len < length text → has_line text ≡ true
has_it text len e lt = grind (arith, nat_tests, e, lt)

pub name_in : (text : List ℕ) (len n : ℕ) → len ≡ line_len text → n ≤ length (take len text) → n ≡ name_len (take len text) → token Name (slice_range text 0 n) ≡ token Name (name_of (line_of text))
name_in text len n e within is =
    let le : n ≤ len = omega (arith, within, length-take len text) in
    let whole_name : n - 0 ≡ n = omega arith in
    ap (token Name) (
    ap (λ k. take k text) whole_name
    ∙ sym (take-take n len text le)
    ∙ ap (λ k. take k (take len text)) is
    ∙ ap (λ k. take (name_len (take k text)) (take k text)) e
    )

-- a piece of a line, in its text
pub value_in : (text : List ℕ) (len start end : ℕ) → len ≡ line_len text → start ≤ end → end ≤ length (take len text) → slice_range (take len text) start end ≡ value_of (take len text) → take (end - start) (drop start text) ≡ value_of (line_of text)
value_in text len start end e ordered end_in value =
    let room : end ≤ len = omega (arith, end_in, length-take len text) in
    let sum : start + (len - start) ≡ len = omega (arith, room, ordered) in
    sym (take-take (end - start) (len - start) (drop start text) (omega (arith, room)))
    ∙ ap (take (end - start)) (sym (drop-take start (len - start) text) ∙ ap (λ k. drop start (take k text)) sum)
    ∙ value
    ∙ ap (λ k. value_of (take k text)) e

pub mark_found : (names : NameRules) (stated : Stated) (whole : Bool) (text : List ℕ) (len : ℕ) (kind : BodyKind) → len ≡ line_len text → len < length text → is_blank (take len text) ≡ true → kind ≡ body_kind stated
    → IsFound names (λ all t. lines names stated all t) whole text (record { kind = Firm; start = len + 1; end = len + 1; next = len + 1; stage = AtBody kind Plain Fresh })
mark_found names stated whole text len kind e lt blank kind_is =
    let empty : slice_range text (len + 1) (len + 1) ≡ [] = let none : (len + 1) - (len + 1) ≡ 0 = omega arith in ap (λ n. take n (drop (len + 1) text)) none in
    let here : is_blank (line_of text) ≡ true = ap (λ k. is_blank (take k text)) (sym e) ∙ blank in
    record {
      ordered = omega arith;
      within = omega (arith, lt);
      room = omega (arith, lt);
      head = BodyIs kind Plain Fresh;
      steps = λ part.
          subst (λ (t : Token). Steps (head_left names part (AtLine stated)) (head_left names part (AtBody kind Plain Fresh)) whole text (len + 1) t) (sym (ap (token Firm) empty))
          (subst (λ (k : BodyKind). Steps (head_left names part (AtLine stated)) (head_left names part (AtBody k Plain Fresh)) whole text (len + 1) (token Firm [])) (sym kind_is)
          (subst (λ n. Steps (head_left names part (AtLine stated)) (head_left names part (AtBody (body_kind stated) Plain Fresh)) whole text (n + 1) (token Firm [])) (sym e)
          (mark_steps names part stated whole text (has_it text len e lt) here)));
    }

pub value_found : (names : NameRules) (stated said : Stated) (whole : Bool) (text : List ℕ) (len n : ℕ) (now : Standing) (start end : ℕ) → len ≡ line_len text → len < length text → is_blank (take len text) ≡ false → n ≡ name_len (take len text) → n ≤ length (take len text)
    → is_passed names (take n (take len text)) ≡ false → said ≡ state stated (take len text) → now ≡ standing names (take n (take len text))
    → start ≤ end → end ≤ length (take len text) → slice_range (take len text) start end ≡ value_of (take len text)
    → IsFound names (λ all t. lines names stated all t) whole text (record { kind = Name; start = 0; end = n; next = start; stage = AtValue now (end - start) said })
value_found names stated said whole text len n now start end e lt blank n_is n_in told said_is stands ordered end_in value =
    let name_is : take n (take len text) ≡ name_of (line_of text) = ap (λ k. take k (take len text)) n_is ∙ ap (λ k. take (name_len (take k text)) (take k text)) e in
    let count = end - start in
    let room : start + count ≤ len = omega (arith, ordered, end_in, length-take len text) in
    let value_is = value_in text len start end e ordered end_in value in
    record {
      ordered = omega arith;
      within = omega (arith, n_in, length-take len text);
      room = omega (arith, room, lt);
      head = ValueIs now count said;
      steps = λ part.
          subst (λ (t : Token). Steps (head_left names part (AtLine stated)) (head_left names part (AtValue now count said)) whole text start t) (sym (name_in text len n e n_in n_is))
          (subst (λ (s : Stated). Steps (head_left names part (AtLine stated)) (head_left names part (AtValue now count s)) whole text start (token Name (name_of (line_of text)))) (sym (said_is ∙ ap (λ k. state stated (take k text)) e))
          (value_begins names part stated whole text now start count (has_it text len e lt) (ap (λ k. is_blank (take k text)) (sym e) ∙ blank) (ap (is_passed names) (sym name_is) ∙ told) (ap (standing names) (sym name_is) ∙ sym stands) (omega (arith, room, e)) value_is));
    }
