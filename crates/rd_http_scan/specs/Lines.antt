-- The lines of a head, read.
use Rattle.std.proofs.Common.{◌≡◌, ◌≢◌, ℕ, ◌+◌, ◌<◌, ◌≤◌, suc, zero, Bool, true, false, eqb, List, [], ◌∷◌, ◌++◌, length, refl, sym, ap, ◌∙◌, subst, arith, append-nil, append_assoc, length-append, inl, inr, codes, Some, None}
use Rattle.std.proofs.lemmas.Bool.{both_ways, eqb-true}
use Rattle.std.proofs.lemmas.Bool.Decides.{nat_tests}
use Rattle.std.proofs.lemmas.List.Elements.{All-nil, All-cons}
use Rattle.std.specs.Char.{is_ascii_digit}
use Rattle.std.specs.List.{flat_map}
use Rattle.httparse.specs.Grammar.{is_token_byte, is_value_byte, AllPass, LineEnd, crlf, lf, print_end, Field, IsField, print_field}
use Rattle.httparse.specs.Pieces.{Begins, Then, Refutes, is_newline, Newline, Bytes, Word, Version, Digit, Code, Text, Reason, FieldLine, FieldLines, Section}
use Rattle.httparse.proofs.RunLemmas.{run_unique, run_unstopped}
use Rattle.httparse.proofs.PieceLemmas.{Refutes_by, Never_intro, NotYet_intro, front-append, print_field-append, Stops_value, Digit_deterministic, Name_deterministic, colon_ends_token, Section_skip, FieldLines-append}
use Rattle.httparse.proofs.OpenLemmas.{Completes_first, some_digit, some_text, some_reason, some_section, letter_is_token, Version_after_bytes, Version_before_digit, FieldLine_of_row, Section_after_lines, Section_of_line, Reason_with, Reason_without}
use Rattle.httparse.proofs.ReadLemmas.{Version_bytes, FieldLine_row, FieldLine_done, Section_after, BeginsLine_either, Reason_text, Reason_newline, FieldLine_at_newline, Newline_at_other}
use Rattle.rd_http_scan.specs.Reading.{Reading, Reads, Open, Wrong, Cut, Run, At, cut, then_reading, word_reading, newline_reading, bytes_reading}

-- ---- versions

pub version_reading : (text : List ℕ) → Reading Version text
version_reading text = by (bytes_reading (codes "HTTP/1.") text)
  where
    minor_at : (rest : List ℕ) → text ≡ codes "HTTP/1." ++ rest → Reading Version text
    minor_at [] h = Open (NotYet_intro λ x. let e : [] ≡ (48 + x.0) ∷ x.1 = cc (h, x.2.1) in cc e) (Version_before_digit h refl)
    minor_at (b ∷ rest) h = at (eqb b 48) refl (eqb b 49) refl
      where
        digit_is : (n : ℕ) → b ≡ 48 + n → text ≡ codes "HTTP/1." ++ (48 + n) ∷ rest
        digit_is n e = h ∙ ap (λ (m : ℕ). codes "HTTP/1." ++ m ∷ rest) e

        at : (t : Bool) → eqb b 48 ≡ t → (u : Bool) → eqb b 49 ≡ u → Reading Version text
        at true p u q = Reads 0 rest (omega arith, digit_is 0 (eqb-true b 48 p))
        at false p true q = Reads 1 rest (omega arith, digit_is 1 (eqb-true b 49 q))
        at false p false q = Wrong (Never_intro λ more x.
            let e : codes "HTTP/1." ++ b ∷ (rest ++ more) ≡ codes "HTTP/1." ++ (48 + x.0) ∷ x.1 = sym (front-append text (codes "HTTP/1.") (b ∷ rest) more h) ∙ x.2.1 in
            let is : b ≡ 48 + x.0 = cc e in
            let small : x.0 ≤ 1 = x.2.0 in
            grind (arith, nat_tests, is, p, q, small))

    by : Reading (Bytes (codes "HTTP/1.")) text → Reading Version text
    by (Reads t rest h) = minor_at rest h
    by (Open none may) = Open (Version_bytes none) (Version_after_bytes may)
    by (Wrong none) = Wrong (Version_bytes none)

-- ---- codes

pub digit_reading : (text : List ℕ) → Reading Digit text
digit_reading [] = Open (NotYet_intro λ h. cc (h.2.1)) some_digit
digit_reading (b ∷ text) = by (is_ascii_digit b) refl
  where
    by : (t : Bool) → is_ascii_digit b ≡ t → Reading Digit (b ∷ text)
    by true q = Reads b text (q, refl)
    by false q = Wrong (Never_intro λ more h. let is : b ≡ h.0 = cc (h.2.1) in both_ways _ q (ap (λ (n : ℕ). is_ascii_digit n) is ∙ h.2.0))

pub code_reading : (text : List ℕ) → Reading Code text
code_reading text = then_reading Digit_deterministic (Completes_first some_digit some_digit) (digit_reading text)
    (λ t. then_reading Digit_deterministic some_digit (digit_reading t) digit_reading)

-- ---- the text of a line

pub text_reading : (text : List ℕ) → Reading Text text
text_reading text = by (cut is_value_byte text)
  where
    at : (w : List ℕ) (b : ℕ) (rest : List ℕ) → AllPass is_value_byte w → is_value_byte b ≡ false → text ≡ w ++ b ∷ rest → Reading Newline (b ∷ rest) → Reading Text text
    at w b rest all f e (Reads end r h) = Reads (w, end) r (all, e ∙ ap (λ (t : List ℕ). w ++ t) h)
    at w b rest all f e (Open none may) = Open (Refutes_by (ends w b rest all f e) none)
        (record { more = may.more; tree = (w, may.tree); reads = λ r. (all, front-append text w (b ∷ rest) (may.more ++ r) e ∙ ap (λ (t : List ℕ). w ++ t) (may.reads r)) })
      where
        ends : (w : List ℕ) (b : ℕ) (rest : List ℕ) → AllPass is_value_byte w → is_value_byte b ≡ false → text ≡ w ++ b ∷ rest → (more : List ℕ) → Begins Text (text ++ more) → Begins Newline (b ∷ (rest ++ more))
        ends w b rest all f e more h =
            (h.0.1, h.1, (run_unique is_value_byte w h.0.0 (b ∷ (rest ++ more)) _ all h.2.0 f (Stops_value h.0.1 h.1) (sym (front-append text w (b ∷ rest) more e) ∙ h.2.1)).1)
    at w b rest all f e (Wrong none) = Wrong (Refutes_by (ends w b rest all f e) none)
      where
        ends : (w : List ℕ) (b : ℕ) (rest : List ℕ) → AllPass is_value_byte w → is_value_byte b ≡ false → text ≡ w ++ b ∷ rest → (more : List ℕ) → Begins Text (text ++ more) → Begins Newline (b ∷ (rest ++ more))
        ends w b rest all f e more h =
            (h.0.1, h.1, (run_unique is_value_byte w h.0.0 (b ∷ (rest ++ more)) _ all h.2.0 f (Stops_value h.0.1 h.1) (sym (front-append text w (b ∷ rest) more e) ∙ h.2.1)).1)

    by : Cut is_value_byte text → Reading Text text
    by (Run all) = Open (NotYet_intro λ h. run_unstopped is_value_byte h.0.0 _ (subst (AllPass is_value_byte) h.2.1 all) (Stops_value h.0.1 h.1))
        (record { more = 10 ∷ []; tree = (text, lf); reads = λ r. (all, refl) })
    by (At w b rest all f e) = at w b rest all f e (newline_reading (b ∷ rest))

pub field_reading : (text : List ℕ) → Reading FieldLine text
field_reading text = by (then_reading Name_deterministic some_text (word_reading is_token_byte 58 65 colon_ends_token letter_is_token text) text_reading)
  where
    by : Reading (Then (Word is_token_byte 58) Text) text → Reading FieldLine text
    by (Reads a rest x) = Reads (record { name = a.0; raw = a.1.0; end = a.1.1 }) rest (FieldLine_done a.0 a.1.0 a.1.1 text x.0 rest x.1 x.2)
    by (Open none may) = Open (FieldLine_row none) (FieldLine_of_row may)
    by (Wrong none) = Wrong (FieldLine_row none)

reason_of_nothing : (r : _) (e : LineEnd) (rest : List ℕ) → Reason (r, e) [] rest → ⊥
reason_of_nothing None crlf rest h = cc (h.1)
reason_of_nothing None lf rest h = cc (h.1)
reason_of_nothing (Some phrase) e rest h = cc (h.1)

pub reason_reading : (text : List ℕ) → Reading Reason text
reason_reading [] = Open (NotYet_intro λ h. reason_of_nothing h.0.0 h.0.1 h.1 h.2) some_reason
reason_reading (b ∷ text) = by (eqb b 32) refl
  where
    spaced : b ≡ 32 → Reading Text text → Reading Reason (b ∷ text)
    spaced is (Reads t rest h) = Reads (Some t.0, t.1) rest (h.0, cc (is, h.1))
    spaced is (Open none may) = Open (Reason_text (b ∷ text) 0 (omega arith) is none) (Reason_with (ap (λ (n : ℕ). n ∷ text) is) may)
    spaced is (Wrong none) = Wrong (Reason_text (b ∷ text) 0 (omega arith) is none)

    plain : b ≢ 32 → Reading Newline (b ∷ text) → Reading Reason (b ∷ text)
    plain other (Reads e rest h) = Reads (None, e) rest (All-nil _, h)
    plain other (Open none may) = Open (Reason_newline (b ∷ text) 0 (omega arith) other none) (Reason_without may)
    plain other (Wrong none) = Wrong (Reason_newline (b ∷ text) 0 (omega arith) other none)

    by : (t : Bool) → eqb b 32 ≡ t → Reading Reason (b ∷ text)
    by true q = spaced (eqb-true b 32 q) (text_reading text)
    by false q = plain (λ is. grind (arith, nat_tests, is, q)) (newline_reading (b ∷ text))

-- ---- field lines and an empty line

one_line : (f : Field) (text rest : List ℕ) → FieldLine f text rest → FieldLines (f ∷ []) text rest
one_line f text rest x = (All-cons IsField f [] x.0 (All-nil _), x.1 ∙ ap (λ (t : List ℕ). t ++ rest) (sym (append-nil (print_field f))))

-- behind a field line, a section is what follows the line
section_behind : {M : List ℕ → Type 0} (f : Field) (text rest : List ℕ) → FieldLine f text rest → Refutes M (Begins Section) rest → Refutes M (Begins Section) text
section_behind f text rest x = Refutes_by λ more h.
    let skipped = Section_skip (f ∷ []) h.0.0 h.0.1 (text ++ more) (rest ++ more) h.1 (FieldLines-append (f ∷ []) text rest more (one_line f text rest x)) h.2 in
    ((skipped.0, h.0.1), h.1, skipped.2)

shorter : (f : Field) (text rest : List ℕ) → FieldLine f text rest → length rest < length text
shorter f text rest x = omega (arith, ap length (x.1 ∙ print_field-append f rest), length-append f.name (58 ∷ (f.raw ++ (print_end f.end ++ rest))), length-append f.raw (print_end f.end ++ rest), length-append (print_end f.end) rest)

section_of_nothing : (fs : List Field) (last : LineEnd) (rest : List ℕ) → Section (fs, last) [] rest → ⊥
section_of_nothing fs crlf rest h = omega (arith, ap length h.1, length-append (flat_map print_field fs ++ print_end crlf) rest, length-append (flat_map print_field fs) (print_end crlf))
section_of_nothing fs lf rest h = omega (arith, ap length h.1, length-append (flat_map print_field fs ++ print_end lf) rest, length-append (flat_map print_field fs) (print_end lf))

regroup : (a b c r : List ℕ) → a ++ ((b ++ c) ++ r) ≡ ((a ++ b) ++ c) ++ r
regroup a b c r = simp append_assoc

section_by : (most : ℕ) (text : List ℕ) → length text ≤ most → Reading Section text
section_by most [] fits = Open (NotYet_intro λ h. section_of_nothing h.0.0 h.0.1 h.1 h.2) some_section
section_by zero (b ∷ text) fits = absurd (omega (arith, fits))
section_by (suc most) (b ∷ text) fits = by (λ rest. section_by most rest) (is_newline b) refl
  where
    ended : is_newline b ≡ true → Reading Newline (b ∷ text) → Reading Section (b ∷ text)
    ended n (Reads e rest h) = Reads ([], e) rest (All-nil _, h)
    ended n (Open none may) = Open (Section_after [] (All-nil _, refl) (BeginsLine_either none (FieldLine_at_newline _ (b ∷ text) 0 (omega arith) n))) (Section_of_line (inl may))
    ended n (Wrong none) = Wrong (Section_after [] (All-nil _, refl) (BeginsLine_either none (FieldLine_at_newline _ (b ∷ text) 0 (omega arith) n)))

    behind : (f : Field) (rest : List ℕ) → FieldLine f (b ∷ text) rest → Reading Section rest → Reading Section (b ∷ text)
    behind f rest x (Reads s q y) = Reads (f ∷ s.0, s.1) q (All-cons IsField f s.0 x.0 y.0, x.1 ∙ ap (λ (t : List ℕ). print_field f ++ t) y.1 ∙ regroup (print_field f) (flat_map print_field s.0) (print_end s.1) q)
    behind f rest x (Open none may) = Open (section_behind f (b ∷ text) rest x none) (Section_after_lines (f ∷ []) (one_line f (b ∷ text) rest x) may)
    behind f rest x (Wrong none) = Wrong (section_behind f (b ∷ text) rest x none)

    lines : ((rest : List ℕ) → length rest ≤ most → Reading Section rest) → is_newline b ≡ false → Reading FieldLine (b ∷ text) → Reading Section (b ∷ text)
    lines further n (Reads f rest x) = behind f rest x (further rest (omega (arith, fits, shorter f (b ∷ text) rest x)))
    lines further n (Open none may) = Open (Section_after [] (All-nil _, refl) (BeginsLine_either (Newline_at_other _ (b ∷ text) 0 (omega arith) n) none)) (Section_of_line (inr may))
    lines further n (Wrong none) = Wrong (Section_after [] (All-nil _, refl) (BeginsLine_either (Newline_at_other _ (b ∷ text) 0 (omega arith) n) none))

    by : ((rest : List ℕ) → length rest ≤ most → Reading Section rest) → (n : Bool) → is_newline b ≡ n → Reading Section (b ∷ text)
    by further true n = ended n (newline_reading (b ∷ text))
    by further false n = lines further n (field_reading (b ∷ text))

pub section_reading : (text : List ℕ) → Reading Section text
section_reading text = section_by (length text) text (omega arith)
