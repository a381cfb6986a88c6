-- Whether bytes begin with a head, may still come to begin with one, or never will: as httparse answers it.
use Rattle.std.proofs.Common.{◌≡◌, ℕ, zero, suc, ◌<◌, ◌≤◌, length, Bool, true, false, List, [], ◌∷◌, ◌++◌, refl, sym, ap, ◌∙◌, subst, arith, inl, inr, ◌⊎◌, IsUtf8}
use Rattle.std.proofs.lemmas.Bool.{false≢true}
use Rattle.std.proofs.lemmas.Str.{IsUtf8-from_is_utf8, is_utf8-from_IsUtf8}
use Rattle.std.specs.Str.{is_utf8}
use Rattle.httparse.specs.Grammar.{is_token_byte, is_uri_byte, AllPass, LineEnd, crlf, lf, print_blank, RequestHead, ReadsRequest, HasNoRequest, NeverHasRequest, MayBecomeRequest, ResponseHead, ReadsResponse, HasNoResponse, NeverHasResponse, MayBecomeResponse}
use Rattle.httparse.specs.Pieces.{Begins, Then, NotYet, Never, Completes, MayBecomeRequestStart, is_newline, Newline, Bytes, Blank, BlankLines, Word, Method, Target, Version, Code, Reason, Section, RequestStart, ResponseStart}
use Rattle.httparse.proofs.RunLemmas.{run_unstopped}
use Rattle.httparse.proofs.PieceLemmas.{IsDeterministic, Never_intro, NotYet_intro, Refutes_first, Refutes_next, space_ends_token, Blank_deterministic, Method_deterministic, Target_deterministic, Version_deterministic, Code_deterministic, Bytes_deterministic, Word_deterministic, RequestStart_deterministic, ResponseStart_deterministic}
use Rattle.httparse.proofs.OpenLemmas.{Completes_first, Completes_next, BlankLines_after, some_newline, some_bytes, some_code, some_reason, some_section, letter_is_token, line_blank, line_method, line_version, ends_in_target, status_blank, request_may, request_may_from_line, response_may}
use Rattle.httparse.proofs.ReadLemmas.{Blank_after, Blank_open, Blank_newline, Target_word}
use Rattle.httparse.proofs.HeadLemmas.{request_not_yet, request_never, response_not_yet, response_never}
use Rattle.httparse.proofs.GrammarLemmas.{request_head, request_from_pieces, response_head, response_from_pieces}
use Rattle.rd_http_scan.specs.Reading.{Reading, Reads, Open, Wrong, Cut, Run, At, cut, then_reading, next_reading, word_at, word_reading, newline_reading, bytes_reading}
use Rattle.rd_http_scan.specs.Lines.{version_reading, code_reading, reason_reading, section_reading}

-- ---- the empty lines before a start line

pub data BlankReading (text : List ℕ) : Type 0 where
  BlankReads : (es : List LineEnd) (rest : List ℕ) → Blank es text rest → BlankReading text
  BlankOpen : NotYet (Begins Blank) text → Completes BlankLines text → BlankReading text
  BlankWrong : Never (Begins Blank) text → BlankReading text

one_line : (e : LineEnd) (text middle : List ℕ) → Newline e text middle → text ≡ print_blank (e ∷ []) ++ middle
one_line crlf text middle x = x
one_line lf text middle x = x

more_blank : (e : LineEnd) (es : List LineEnd) (text middle rest : List ℕ) → Newline e text middle → middle ≡ print_blank es ++ rest → text ≡ print_blank (e ∷ es) ++ rest
more_blank crlf es text middle rest x y = x ∙ ap (λ (t : List ℕ). 13 ∷ 10 ∷ t) y
more_blank lf es text middle rest x y = x ∙ ap (λ (t : List ℕ). 10 ∷ t) y

behind_line : (e : LineEnd) (text middle : List ℕ) → Newline e text middle → BlankReading middle → BlankReading text
behind_line e text middle x (BlankReads es rest y) = BlankReads (e ∷ es) rest (more_blank e es text middle rest x y.0, y.1)
behind_line e text middle x (BlankOpen none may) = BlankOpen (Blank_after (e ∷ []) (one_line e text middle x) none)
    (record { more = may.more; tree = e ∷ may.tree; reads = λ rest. more_blank e may.tree (text ++ (may.more ++ rest)) (middle ++ (may.more ++ rest)) rest (longer e (may.more ++ rest) x) (may.reads rest) })
  where
    longer : (e : LineEnd) (more : List ℕ) → Newline e text middle → Newline e (text ++ more) (middle ++ more)
    longer crlf more x = ap (λ (t : List ℕ). t ++ more) x
    longer lf more x = ap (λ (t : List ℕ). t ++ more) x
behind_line e text middle x (BlankWrong none) = BlankWrong (Blank_after (e ∷ []) (one_line e text middle x) none)

no_more_lines : (b : ℕ) (text : List ℕ) → is_newline b ≡ false → BlankReading (b ∷ text)
no_more_lines b text e = BlankReads [] (b ∷ text) (refl, e)

-- a line end, and the reading of what follows it
one_byte : (b : ℕ) (text : List ℕ) → is_newline b ≡ true → Reading Newline (b ∷ text) → ((e : LineEnd) (rest : List ℕ) → Newline e (b ∷ text) rest → BlankReading rest) → BlankReading (b ∷ text)
one_byte b text n (Reads e rest x) further = behind_line e (b ∷ text) rest x (further e rest x)
one_byte b text n (Open none may) further = BlankOpen (Blank_newline (b ∷ text) 0 (omega arith) n none) (BlankLines_after [] refl may)
one_byte b text n (Wrong none) further = BlankWrong (Blank_newline (b ∷ text) 0 (omega arith) n none)

shorter : (e : LineEnd) (text rest : List ℕ) → Newline e text rest → length rest < length text
shorter crlf text rest x = omega (arith, ap length x)
shorter lf text rest x = omega (arith, ap length x)

blank_by : (most : ℕ) (text : List ℕ) → length text ≤ most → BlankReading text
blank_by most [] fits = BlankOpen (Blank_open [] 0 (omega arith)) (record { more = []; tree = []; reads = λ rest. refl })
blank_by zero (b ∷ text) fits = absurd (omega (arith, fits))
blank_by (suc most) (b ∷ text) fits = by (λ rest. blank_by most rest) (is_newline b) refl
  where
    by : ((rest : List ℕ) → length rest ≤ most → BlankReading rest) → (n : Bool) → is_newline b ≡ n → BlankReading (b ∷ text)
    by further true n = one_byte b text n (newline_reading (b ∷ text)) (λ e rest x. further rest (omega (arith, fits, shorter e (b ∷ text) rest x)))
    by further false n = no_more_lines b text n

pub blank_reading : (text : List ℕ) → BlankReading text
blank_reading text = blank_by (length text) text (omega arith)

-- ---- targets

pub data TargetReading (text : List ℕ) : Type 0 where
  TargetReads : (target rest : List ℕ) → Target target text rest → TargetReading text
  TargetOpen : NotYet (Begins Target) text → AllPass is_uri_byte text → TargetReading text
  TargetWrong : Never (Begins Target) text → TargetReading text

pub target_reading : (text : List ℕ) → TargetReading text
target_reading text = by (cut is_uri_byte text)
  where
    word : IsDeterministic (Word is_uri_byte 32)
    word = Word_deterministic is_uri_byte 32 refl

    read : (w rest : List ℕ) → Word is_uri_byte 32 w text rest → (t : Bool) → is_utf8 w ≡ t → TargetReading text
    read w rest x true u = TargetReads w rest (x, IsUtf8-from_is_utf8 w u)
    read w rest x false u = TargetWrong (Never_intro λ more h.
        let same = word.unique h.0 w (text ++ more) h.1 (rest ++ more) h.2.0 (word.append w text rest more x) in
        false≢true (sym u ∙ is_utf8-from_IsUtf8 w (subst IsUtf8 same.0 h.2.1)))

    of : (w rest : List ℕ) → Word is_uri_byte 32 w text rest ⊎ Never (Begins (Word is_uri_byte 32)) text → TargetReading text
    of w rest (inl x) = read w rest x (is_utf8 w) refl
    of w rest (inr none) = TargetWrong (Target_word none)

    by : Cut is_uri_byte text → TargetReading text
    by (Run all) = TargetOpen (NotYet_intro λ h. run_unstopped is_uri_byte h.0 (32 ∷ h.1) (subst (AllPass is_uri_byte) h.2.0.2 all) refl) all
    by (At w b rest all f e) = of w rest (word_at is_uri_byte 32 refl text w b rest all f e)

-- ---- request lines

pub data RequestLineReading (text : List ℕ) : Type 0 where
  LineReads : (t : List LineEnd × (List ℕ × (List ℕ × (ℕ × LineEnd)))) (rest : List ℕ) → RequestStart t text rest → RequestLineReading text
  LineOpen : NotYet (Begins RequestStart) text → MayBecomeRequestStart text → RequestLineReading text
  LineWrong : Never (Begins RequestStart) text → RequestLineReading text

pub request_line_reading : (text : List ℕ) → RequestLineReading text
request_line_reading text = blank (blank_reading text)
  where
    version : (es : List LineEnd) (s : List ℕ) → Blank es text s → (m u : List ℕ) → Method m s u → (p v : List ℕ) → Target p u v → Reading (Then Version Newline) v → RequestLineReading text
    version es s x m u y p v z (Reads a rest w) = LineReads (es, (m, (p, a))) rest (s, x, (u, y, (v, z, w)))
    version es s x m u y p v z (Open none may) =
        LineOpen (Refutes_next _ Blank_deterministic {a = es} x (Refutes_next _ Method_deterministic {a = m} y (Refutes_next _ Target_deterministic {a = p} z none))) (inl (line_version es m p x y z may))
    version es s x m u y p v z (Wrong none) =
        LineWrong (Refutes_next _ Blank_deterministic {a = es} x (Refutes_next _ Method_deterministic {a = m} y (Refutes_next _ Target_deterministic {a = p} z none)))

    target : (es : List LineEnd) (s : List ℕ) → Blank es text s → (m u : List ℕ) → Method m s u → TargetReading u → RequestLineReading text
    target es s x m u y (TargetReads p v z) = version es s x m u y p v z (then_reading Version_deterministic some_newline (version_reading v) newline_reading)
    target es s x m u y (TargetOpen none all) =
        LineOpen (Refutes_next _ Blank_deterministic {a = es} x (Refutes_next _ Method_deterministic {a = m} y (Refutes_first Target (Then Version Newline) none))) (inr (ends_in_target es m u x y all))
    target es s x m u y (TargetWrong none) =
        LineWrong (Refutes_next _ Blank_deterministic {a = es} x (Refutes_next _ Method_deterministic {a = m} y (Refutes_first Target (Then Version Newline) none)))

    method : (es : List LineEnd) (s : List ℕ) → Blank es text s → Reading Method s → RequestLineReading text
    method es s x (Reads m u y) = target es s x m u y (target_reading u)
    method es s x (Open none may) = LineOpen (Refutes_next _ Blank_deterministic {a = es} x (Refutes_first Method (Then Target (Then Version Newline)) none)) (inl (line_method es x may))
    method es s x (Wrong none) = LineWrong (Refutes_next _ Blank_deterministic {a = es} x (Refutes_first Method (Then Target (Then Version Newline)) none))

    blank : BlankReading text → RequestLineReading text
    blank (BlankReads es s x) = method es s x (word_reading is_token_byte 32 65 space_ends_token letter_is_token s)
    blank (BlankOpen none may) = LineOpen (Refutes_first Blank (Then Method (Then Target (Then Version Newline))) none) (inl (line_blank may))
    blank (BlankWrong none) = LineWrong (Refutes_first Blank (Then Method (Then Target (Then Version Newline))) none)

-- ---- heads

pub data RequestReading (bytes : List ℕ) : Type 0 where
  Found : (h : RequestHead) (rest : List ℕ) → ReadsRequest bytes h rest → RequestReading bytes
  Unfinished : HasNoRequest bytes → MayBecomeRequest bytes → RequestReading bytes
  Refused : NeverHasRequest bytes → RequestReading bytes

pub request_reading : (bytes : List ℕ) → RequestReading bytes
request_reading bytes = by (request_line_reading bytes)
  where
    section : (t : List LineEnd × (List ℕ × (List ℕ × (ℕ × LineEnd)))) (s : List ℕ) → RequestStart t bytes s → Reading Section s → RequestReading bytes
    section t s x (Reads a rest y) = Found (request_head (t, a)) rest (request_from_pieces bytes (t, a) rest (s, x, y))
    section t s x (Open none may) = Unfinished (request_not_yet (Refutes_next Section RequestStart_deterministic {a = t} x none)) (request_may (Completes_next RequestStart_deterministic {a = t} x may))
    section t s x (Wrong none) = Refused (request_never (Refutes_next Section RequestStart_deterministic {a = t} x none))

    by : RequestLineReading bytes → RequestReading bytes
    by (LineReads t s x) = section t s x (section_reading s)
    by (LineOpen none may) = Unfinished (request_not_yet (Refutes_first RequestStart Section none)) (request_may_from_line may)
    by (LineWrong none) = Refused (request_never (Refutes_first RequestStart Section none))

-- ---- replies

pub data ReplyReading (bytes : List ℕ) : Type 0 where
  Found : (h : ResponseHead) (rest : List ℕ) → ReadsResponse bytes h rest → ReplyReading bytes
  Unfinished : HasNoResponse bytes → MayBecomeResponse bytes → ReplyReading bytes
  Refused : NeverHasResponse bytes → ReplyReading bytes

status_line_reading : (text : List ℕ) → Reading ResponseStart text
status_line_reading text = blank (blank_reading text)
  where
    behind : (s : List ℕ) → Reading (Then Version (Then (Bytes (32 ∷ [])) (Then Code Reason))) s
    behind s = then_reading Version_deterministic (Completes_first (some_bytes (32 ∷ [])) (Completes_first some_code some_reason)) (version_reading s)
        (λ t. then_reading (Bytes_deterministic (32 ∷ [])) (Completes_first some_code some_reason) (bytes_reading (32 ∷ []) t)
        (λ u. then_reading Code_deterministic some_reason (code_reading u) reason_reading))

    blank : BlankReading text → Reading ResponseStart text
    blank (BlankReads es s x) = next_reading Blank_deterministic es s x (behind s)
    blank (BlankOpen none may) = Open (Refutes_first Blank (Then Version (Then (Bytes (32 ∷ [])) (Then Code Reason))) none) (status_blank may)
    blank (BlankWrong none) = Wrong (Refutes_first Blank (Then Version (Then (Bytes (32 ∷ [])) (Then Code Reason))) none)

pub reply_reading : (bytes : List ℕ) → ReplyReading bytes
reply_reading bytes = by (then_reading ResponseStart_deterministic some_section (status_line_reading bytes) section_reading)
  where
    by : Reading (Then ResponseStart Section) bytes → ReplyReading bytes
    by (Reads t rest x) = Found (response_head t) rest (response_from_pieces bytes t rest x)
    by (Open none may) = Unfinished (response_not_yet none) (response_may may)
    by (Wrong none) = Refused (response_never none)
