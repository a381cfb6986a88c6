-- The next token of a trailer.
use Rattle.std.proofs.Common.{◌≡◌, ℕ, zero, suc, ◌+◌, ◌-◌, ◌<◌, ◌≤◌, Bool, true, false, cond, ltb-true, List, [], ◌∷◌, ◌++◌, length, take, drop, drop-drop, length-take, length-drop, refl, sym, ap, ◌∙◌, subst, arith}
use Rattle.std.specs.Prelude.{slice_range}
use Rattle.std.proofs.lemmas.Bool.Decides.{nat_tests}
use Rattle.std.proofs.lemmas.List.{drop_all}
use Rattle.rd_base.specs.Token.{Token, token}
use Rattle.rd_base.specs.WordCut.{IsCut}
use Rattle.rd_base.specs.declared.values.TokenKind.{TokenKind}
use Rattle.rd_base.specs.declared.values.TokenKind.TheVariants.{Firm, Name}
use Rattle.rd_base.specs.declared.names.NameRules.{NameRules}
use Rattle.rd_http_tokens.specs.declared.stage.Standing.{Standing}
use Rattle.rd_http_tokens.specs.declared.stage.Standing.TheVariants.{Plain, Fixed, Absent}
use Rattle.rd_http_tokens.specs.declared.stage.Stage.TheVariants.{AtTrailerValue}
use Rattle.rd_http_tokens.specs.declared.step.Found.{Found}
use Rattle.rd_http_tokens.specs.Tokens.{value_words, standing, line_len, has_line, line_of, behind_line, is_blank, name_of, name_len, value_of, field_tokens, trailer_by, trailer_tokens, is_passed}
use Rattle.rd_http_tokens.specs.HttpGrammar.{value_left}
use Rattle.rd_http_tokens.specs.Steps.{IsTrailing, value_stands, slice_drop, shifted}
use Rattle.rd_http_tokens.specs.ValueSteps.{one_word, plain_words, fixed_words, is_spent, word_kind}
use Rattle.rd_http_tokens.proofs.Told.{has_it, name_in, value_in}
use Rattle.rd_http_tokens.proofs.ValueFound.{word_text, front_slice}

-- ---- lines

fuel : (m n : ℕ) (names : NameRules) (text : List ℕ) → length text ≤ m → length text ≤ n → trailer_by m names text ≡ trailer_by n names text
fuel zero zero names text a b = refl
fuel zero (suc n) names [] a b = refl
fuel zero (suc n) names (x ∷ text) a b = absurd (omega (arith, a))
fuel (suc m) zero names [] a b = refl
fuel (suc m) zero names (x ∷ text) a b = absurd (omega (arith, b))
fuel (suc m) (suc n) names text a b = by (λ le. fuel m n names (behind_line text) (omega (arith, le, a)) (omega (arith, le, b))) (has_line text) refl
  where
    one : Bool → List Token → List Token
    one t later = cond t (cond (is_blank (line_of text)) [] (field_tokens names (line_of text) ++ later)) []

    by : (length (behind_line text) < length text → trailer_by m names (behind_line text) ≡ trailer_by n names (behind_line text)) → (t : Bool) → has_line text ≡ t → trailer_by (suc m) names text ≡ trailer_by (suc n) names text
    by ih true e =
        let lt : line_len text < length text = ltb-true (line_len text) (length text) e in
        ap (one (has_line text)) (ih (omega (arith, lt, length-drop (line_len text + 1) text)))
    by ih false e = rw e refl

pub opened : (names : NameRules) (text : List ℕ) → has_line text ≡ true → trailer_tokens names text ≡ cond (is_blank (line_of text)) [] (field_tokens names (line_of text) ++ trailer_tokens names (behind_line text))
opened names [] h = absurd (cc h)
opened names (x ∷ text) h =
    let all = x ∷ text in
    let lt : line_len all < length all = ltb-true (line_len all) (length all) h in
    let same = fuel (length text) (length (behind_line all)) names (behind_line all) (omega (arith, lt, length-drop (line_len all + 1) all)) (omega arith) in
    rw h (ap (λ later. cond (is_blank (line_of all)) [] (field_tokens names (line_of all) ++ later)) same)

no_line : (names : NameRules) (text : List ℕ) → has_line text ≡ false → trailer_tokens names text ≡ []
no_line names [] h = refl
no_line names (x ∷ text) h = rw h refl

pub told_line : (names : NameRules) (text : List ℕ) → has_line text ≡ true → is_blank (line_of text) ≡ false → trailer_tokens names text ≡ field_tokens names (line_of text) ++ trailer_tokens names (behind_line text)
told_line names text h blank = opened names text h ∙ ap (λ t. cond t [] (field_tokens names (line_of text) ++ trailer_tokens names (behind_line text))) blank

-- ---- a field's name

pub name_found : (names : NameRules) (text : List ℕ) (len n : ℕ) (now : Standing) (start end : ℕ) → len ≡ line_len text → len < length text → is_blank (line_of text) ≡ false → n ≡ name_len (take len text) → n ≤ length (take len text)
    → is_passed names (take n (take len text)) ≡ false → now ≡ standing names (take n (take len text)) → start ≤ end → end ≤ length (take len text) → slice_range (take len text) start end ≡ value_of (take len text)
    → IsTrailing names (λ t. trailer_tokens names t) text (record { kind = Name; start = 0; end = n; next = start; stage = AtTrailerValue now (end - start) })
name_found names text len n now start end e lt blank n_is n_in told stands ordered end_in value =
    let h = has_it text len e lt in
    let line = line_of text in
    let name_is : take n (take len text) ≡ name_of line = ap (λ k. take k (take len text)) n_is ∙ ap (λ k. take (name_len (take k text)) (take k text)) e in
    let room : start + (end - start) ≤ len = omega (arith, ordered, end_in, length-take len text) in
    let rest = trailer_tokens names (behind_line text) in
    record {
      ordered = omega arith;
      within = omega (arith, n_in, length-take len text);
      now = now;
      count = end - start;
      room = omega (arith, room, lt);
      stage = refl;
      here = told_line names text h blank
          ∙ ap (λ t. cond t [] (token Name (name_of line) ∷ value_words (standing names (name_of line)) (value_of line)) ++ rest) (ap (is_passed names) (sym name_is) ∙ told)
          ∙ ap (λ (s : Standing). token Name (name_of line) ∷ (value_words s (value_of line) ++ rest)) (ap (standing names) (sym name_is) ∙ sym stands)
          ∙ ap (λ (ts : List Token). token Name (name_of line) ∷ ts) (value_stands now start (end - start) text (trailer_tokens names) (value_of line) h (omega (arith, room, e)) (value_in text len start end e ordered end_in value))
          ∙ ap (λ (t : Token). t ∷ value_left now (end - start) (drop start text) (trailer_tokens names)) (sym (name_in text len n e n_in n_is));
    }

-- ---- lines that are passed

pub record TrailerGoes (names : NameRules) (text : List ℕ) (at : ℕ) : Type 0 where
  pub within : at ≤ length text
  pub goes : trailer_tokens names text ≡ trailer_tokens names (drop at text)

pub goes_further : (names : NameRules) (text rest : List ℕ) (at len : ℕ) → rest ≡ drop at text → TrailerGoes names text at → len ≡ line_len rest → len < length rest → is_blank (take len rest) ≡ false → is_passed names (name_of (line_of rest)) ≡ true
    → TrailerGoes names text (at + (len + 1))
goes_further names text rest at len r g e lt blank pass =
    let size : length rest + at ≡ length text = omega (arith, ap length r, length-drop at text, g.within) in
    let there : behind_line rest ≡ drop (at + (len + 1)) text = ap (λ n. drop (n + 1) rest) (sym e) ∙ ap (drop (len + 1)) r ∙ drop-drop (len + 1) at text in
    record {
      within = omega (arith, size, lt);
      goes = g.goes ∙ ap (trailer_tokens names) (sym r) ∙ told_line names rest (has_it rest len e lt) (ap (λ n. is_blank (take n rest)) (sym e) ∙ blank)
          ∙ ap (λ t. cond t [] (token Name (name_of (line_of rest)) ∷ value_words (standing names (name_of (line_of rest))) (value_of (line_of rest))) ++ trailer_tokens names (behind_line rest)) pass
          ∙ ap (trailer_tokens names) there;
    }

pub ends_here : (names : NameRules) (text rest : List ℕ) (at len : ℕ) → rest ≡ drop at text → TrailerGoes names text at → len ≡ line_len rest → len ≡ length rest → trailer_tokens names text ≡ []
ends_here names text rest at len r g e is = g.goes ∙ ap (trailer_tokens names) (sym r) ∙ no_line names rest (grind (arith, nat_tests, e, is))

pub blank_here : (names : NameRules) (text rest : List ℕ) (at len : ℕ) → rest ≡ drop at text → TrailerGoes names text at → len ≡ line_len rest → len < length rest → is_blank (take len rest) ≡ true → trailer_tokens names text ≡ []
blank_here names text rest at len r g e lt blank =
    g.goes ∙ ap (trailer_tokens names) (sym r) ∙ opened names rest (has_it rest len e lt)
    ∙ ap (λ t. cond t [] (field_tokens names (line_of rest) ++ trailer_tokens names (behind_line rest))) (ap (λ n. is_blank (take n rest)) (sym e) ∙ blank)

pub past_end : (names : NameRules) (text : List ℕ) (at : ℕ) → TrailerGoes names text at → length text ≤ at → trailer_tokens names text ≡ []
past_end names text at g le = g.goes ∙ ap (trailer_tokens names) (drop_all at text le)

-- what a call found behind so many bytes
pub trailing_behind : (names : NameRules) (f g : List ℕ → List Token) (text rest : List ℕ) (at : ℕ) (found shift : Found) → rest ≡ drop at text → at ≤ length text → f text ≡ g rest → IsTrailing names g rest found → shift ≡ shifted at found
    → IsTrailing names f text shift
trailing_behind names f g text rest at found shift r le same is s =
    let size : length rest + at ≡ length text = omega (arith, ap length r, length-drop at text, le) in
    let word : slice_range rest found.start found.end ≡ slice_range text (at + found.start) (at + found.end) = ap (λ (t : List ℕ). slice_range t found.start found.end) r ∙ slice_drop text at found.start found.end in
    let next : drop found.next rest ≡ drop (at + found.next) text = ap (drop found.next) r ∙ drop-drop found.next at text in
    subst (λ (x : Found). IsTrailing names f text x) (sym s)
    (record {
      ordered = omega (arith, is.ordered);
      within = omega (arith, is.within, size);
      now = is.now;
      count = is.count;
      room = omega (arith, is.room, size);
      stage = is.stage;
      here = same ∙ is.here
          ∙ ap (λ (w : List ℕ). token found.kind w ∷ value_left is.now is.count (drop found.next rest) (trailer_tokens names)) word
          ∙ ap (λ (t : List ℕ). token found.kind (slice_range text (at + found.start) (at + found.end)) ∷ value_left is.now is.count t (trailer_tokens names)) next;
    })

-- ---- a word of a value

pub word_trailing : (names : NameRules) (now : Standing) (count end : ℕ) (is_soft : Bool) (kind : TokenKind) (text value : List ℕ) → value ≡ take count text → count ≤ length text → IsCut value 0 is_soft end → is_spent now count ≡ false → kind ≡ word_kind now is_soft
    → IsTrailing names (λ t. value_left now count t (trailer_tokens names)) text (record { kind = kind; start = 0; end = end; next = end; stage = AtTrailerValue now (count - end) })
word_trailing names now count end is_soft kind text value v le cut_value unspent kind_is =
    let cut = subst (λ (t : List ℕ). IsCut t 0 is_soft end) v cut_value in
    let fits : end ≤ count = omega (arith, cut.within, length-take count text) in
    record {
      ordered = omega arith;
      within = omega (arith, fits, le);
      now = now;
      count = count - end;
      room = omega (arith, fits, le);
      stage = refl;
      here = by now unspent cut fits
          ∙ ap (λ (w : List ℕ). token (word_kind now is_soft) w ∷ value_left now (count - end) (drop end text) (trailer_tokens names)) (front_slice text count end fits)
          ∙ ap (λ (k : TokenKind). token k (slice_range text 0 end) ∷ value_left now (count - end) (drop end text) (trailer_tokens names)) (sym kind_is);
    }
  where
    by : (now : Standing) → is_spent now count ≡ false → IsCut (take count text) 0 is_soft end → end ≤ count
        → value_left now count text (trailer_tokens names) ≡ token (word_kind now is_soft) (slice_range (take count text) 0 end) ∷ value_left now (count - end) (drop end text) (trailer_tokens names)
    by Plain u cut fits = one_word Plain count end text _ (trailer_tokens names) fits le (plain_words count end is_soft text cut fits)
    by Fixed u cut fits =
        one_word Fixed count end text _ (trailer_tokens names) fits le (fixed_words count end is_soft text cut fits)
        ∙ ap (λ (w : List ℕ). token Firm w ∷ value_left Fixed (count - end) (drop end text) (trailer_tokens names)) (word_text is_soft (slice_range (take count text) 0 end))
    by Absent u cut fits = absurd (cc u)
