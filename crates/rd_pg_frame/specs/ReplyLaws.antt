-- The scan of a reply finds exactly the replies to its note, and the last letter tells the phase after it.
use Rattle.std.proofs.Common.{◌≡◌, ℕ, zero, suc, ◌+◌, ◌≤◌, inl, inr, Bool, true, false, ◌||◌, cond, eqb, List, [], ◌∷◌, ◌++◌, length, take, drop, length-append, append_assoc, Some, refl, sym, ap, subst, ◌∙◌, arith}
use Rattle.std.specs.Prelude.{◌⊎◌, codes, slice_index}
use Rattle.std.proofs.lemmas.Bool.{eqb-true, or_cases}
use Rattle.std.proofs.lemmas.List.{take_at, drop_at, append-nil}
use Rattle.rd_base.specs.declared.values.Scan.TheVariants.{Whole}
use Rattle.rd_base.specs.declared.values.Phase.{Phase}
use Rattle.rd_base.specs.declared.values.Note.{Note}
use Rattle.rd_base.specs.declared.values.Side.{Side}
use Rattle.rd_pg_frame.specs.Letters.{logging_in, asking_codes, query_reply}
use Rattle.rd_pg_frame.specs.Messages.{be_u32, be_u32_at, is_among, message_at, IsMessage}
use Rattle.rd_pg_frame.specs.MessagePlaces.{message_made}
use Rattle.rd_pg_frame.specs.Scanning.{scan_messages, scan_answer, scan_nothing, scan_reply}
use Rattle.rd_pg_frame.specs.Phases.{phase_open, phase_password, phase_ready, phase_over, note_ssl, note_gss, note_startup, note_password, letter_behind, last_letter_up_to, login_phase, phase_after}
use Rattle.rd_pg_frame.specs.Units.{IsOneOf, IsAuthentication, IsSequence, IsReply, IsReplyTo, IsLoginStep, IsReady, IsError, IsAnswer, Finds}
use Rattle.rd_pg_frame.specs.Units.IsSequence.{Ends, Goes}
use Rattle.rd_pg_frame.specs.Units.IsReply.{NoSsl, NoGss, LoggedIn, Refused, Asked, Accepted, Denied, Answered, Synced}
use Rattle.rd_pg_frame.specs.PacketLaws.{answer_one, nothing_whole}
use Rattle.rd_pg_frame.specs.UnitLaws.{IsInner, IsLast, unit_shown, unit_made}
use Rattle.rd_pg_frame.specs.TableLaws.{each_among, startup_table, password_reply_table, query_table}
use Rattle.rd_pg_frame.specs.ScanLaws.{reply_framing}
use Rattle.rd_pg_frame.specs.RequestLaws.{finds, sequence_map, none_of, none_asks, none_authenticates}

sequence_split : (I A B : List ℕ → Type 0) → (bytes : List ℕ) → IsSequence I (λ b. A b ⊎ B b) bytes → IsSequence I A bytes ⊎ IsSequence I B bytes
sequence_split I A B bytes (Ends b (inl a)) = inl (Ends b a)
sequence_split I A B bytes (Ends b (inr c)) = inr (Ends b c)
sequence_split I A B bytes (Goes front rest inner sequence) = go (sequence_split I A B rest sequence)
  where
    go : IsSequence I A rest ⊎ IsSequence I B rest → IsSequence I A (front ++ rest) ⊎ IsSequence I B (front ++ rest)
    go (inl s) = inl (Goes front rest inner s)
    go (inr s) = inr (Goes front rest inner s)

-- a login ends with an error, a question or a status
login_shown : (asking : List ℕ) (bytes : List ℕ) → scan_messages (logging_in asking) bytes ≡ Whole (length bytes) → IsSequence IsLoginStep IsError bytes ⊎ (IsSequence IsLoginStep (IsAuthentication (codes "R") asking) bytes ⊎ IsSequence IsLoginStep IsReady bytes)
login_shown asking bytes e = go (unit_shown (logging_in asking) bytes e)
  where
    later : IsSequence IsLoginStep IsError bytes ⊎ IsSequence IsLoginStep (λ b. IsAuthentication (codes "R") asking b ⊎ IsReady b) bytes → IsSequence IsLoginStep IsError bytes ⊎ (IsSequence IsLoginStep (IsAuthentication (codes "R") asking) bytes ⊎ IsSequence IsLoginStep IsReady bytes)
    later (inl s) = inl s
    later (inr s) = inr (sequence_split IsLoginStep (IsAuthentication (codes "R") asking) IsReady bytes s)

    go : ((true ≡ true) × IsOneOf [] bytes) ⊎ IsSequence (IsInner (logging_in asking)) (IsLast (logging_in asking)) bytes → IsSequence IsLoginStep IsError bytes ⊎ (IsSequence IsLoginStep (IsAuthentication (codes "R") asking) bytes ⊎ IsSequence IsLoginStep IsReady bytes)
    go (inl alone) = absurd (none_of bytes alone.1)
    go (inr s) = later (sequence_split IsLoginStep IsError (λ b. IsAuthentication (codes "R") asking b ⊎ IsReady b) bytes s)

login_failed : (asking bytes : List ℕ) → IsSequence IsLoginStep IsError bytes → IsSequence (IsInner (logging_in asking)) (IsLast (logging_in asking)) bytes
login_failed asking bytes s = sequence_map IsLoginStep (IsInner (logging_in asking)) IsError (IsLast (logging_in asking)) (λ b i. i) (λ b l. inl l) bytes s

login_asked : (asking bytes : List ℕ) → IsSequence IsLoginStep (IsAuthentication (codes "R") asking) bytes → IsSequence (IsInner (logging_in asking)) (IsLast (logging_in asking)) bytes
login_asked asking bytes s = sequence_map IsLoginStep (IsInner (logging_in asking)) (IsAuthentication (codes "R") asking) (IsLast (logging_in asking)) (λ b i. i) (λ b l. inr (inl l)) bytes s

login_ready : (asking bytes : List ℕ) → IsSequence IsLoginStep IsReady bytes → IsSequence (IsInner (logging_in asking)) (IsLast (logging_in asking)) bytes
login_ready asking bytes s = sequence_map IsLoginStep (IsInner (logging_in asking)) IsReady (IsLast (logging_in asking)) (λ b i. i) (λ b l. inr (inr l)) bytes s

startup_shown : (side : Side) (bytes : List ℕ) → scan_messages (logging_in (asking_codes side)) bytes ≡ Whole (length bytes) → IsReplyTo side note_startup bytes
startup_shown side bytes e = go (login_shown (asking_codes side) bytes e)
  where
    go : IsSequence IsLoginStep IsError bytes ⊎ (IsSequence IsLoginStep (IsAuthentication (codes "R") (asking_codes side)) bytes ⊎ IsSequence IsLoginStep IsReady bytes) → IsReplyTo side note_startup bytes
    go (inl s) = (phase_over, Refused bytes s)
    go (inr (inl s)) = (phase_password, Asked bytes s)
    go (inr (inr s)) = (phase_ready, LoggedIn bytes s)

password_reply_shown : (side : Side) (bytes : List ℕ) → scan_messages (logging_in []) bytes ≡ Whole (length bytes) → IsReplyTo side note_password bytes
password_reply_shown side bytes e = go (login_shown [] bytes e)
  where
    never : (b : List ℕ) → IsSequence IsLoginStep (IsAuthentication (codes "R") []) b → ⊥
    never b (Ends c a) = none_asks (codes "R") c a
    never b (Goes front rest inner s) = never rest s

    go : IsSequence IsLoginStep IsError bytes ⊎ (IsSequence IsLoginStep (IsAuthentication (codes "R") []) bytes ⊎ IsSequence IsLoginStep IsReady bytes) → IsReplyTo side note_password bytes
    go (inl s) = (phase_over, Denied bytes s)
    go (inr (inl s)) = absurd (never bytes s)
    go (inr (inr s)) = (phase_ready, Accepted bytes s)

query_shown : (bytes : List ℕ) → scan_messages query_reply bytes ≡ Whole (length bytes) → IsSequence IsAnswer IsReady bytes
query_shown bytes e = go (unit_shown query_reply bytes e)
  where
    answer : (b : List ℕ) → IsInner query_reply b → IsAnswer b
    answer b (inl one) = one
    answer b (inr a) = absurd (none_authenticates [] b a)

    ending : (b : List ℕ) → IsLast query_reply b → IsReady b
    ending b (inl one) = absurd (none_of b one)
    ending b (inr (inl a)) = absurd (none_authenticates [] b a)
    ending b (inr (inr s)) = s

    go : ((true ≡ true) × IsOneOf [] bytes) ⊎ IsSequence (IsInner query_reply) (IsLast query_reply) bytes → IsSequence IsAnswer IsReady bytes
    go (inl alone) = absurd (none_of bytes alone.1)
    go (inr s) = sequence_map (IsInner query_reply) IsAnswer (IsLast query_reply) IsReady answer ending bytes s

query_made : (bytes : List ℕ) → IsSequence IsAnswer IsReady bytes → scan_messages query_reply bytes ≡ Whole (length bytes)
query_made bytes s =
    unit_made query_reply query_table bytes (inr (sequence_map IsAnswer (IsInner query_reply) IsReady (IsLast query_reply) (λ b i. inl i) (λ b l. inr (inr l)) bytes s))

-- a whole answer is `N`
answer_shown : (granting : ℕ) (bytes : List ℕ) → scan_answer granting bytes ≡ Whole (length bytes) → codes "N" ≡ bytes
answer_shown granting bytes e = let one = answer_one granting bytes (length bytes) e in go one.0 one.1 one.2
  where
    go : (rest : List ℕ) → 78 ∷ rest ≡ bytes → length bytes ≡ 1 → codes "N" ≡ bytes
    go [] is size = is
    go (b ∷ rest) is size = absurd (omega (arith, ap length is, size))

reply_made : (side : Side) (note : Note) (phase : Phase) (bytes : List ℕ) → IsReply side note phase bytes → scan_reply side note bytes ≡ Whole (length bytes)
reply_made side note phase bytes NoSsl = refl
reply_made side note phase bytes NoGss = refl
reply_made side note phase bytes (LoggedIn b s) = unit_made (logging_in (asking_codes side)) (startup_table side) b (inr (login_ready (asking_codes side) b s))
reply_made side note phase bytes (Refused b s) = unit_made (logging_in (asking_codes side)) (startup_table side) b (inr (login_failed (asking_codes side) b s))
reply_made side note phase bytes (Asked b s) = unit_made (logging_in (asking_codes side)) (startup_table side) b (inr (login_asked (asking_codes side) b s))
reply_made side note phase bytes (Accepted b s) = unit_made (logging_in []) password_reply_table b (inr (login_ready [] b s))
reply_made side note phase bytes (Denied b s) = unit_made (logging_in []) password_reply_table b (inr (login_failed [] b s))
reply_made side note phase bytes (Answered b s) = query_made b s
reply_made side note phase bytes (Synced b s) = query_made b s

reply_shown : (side : Side) (note : Note) (bytes : List ℕ) → scan_reply side note bytes ≡ Whole (length bytes) → IsReplyTo side note bytes
reply_shown side note bytes e = by_ssl (eqb note.0 1) refl e
  where
    by_either : (eqb note.0 5 ≡ true) ⊎ (eqb note.0 6 ≡ true) → IsSequence IsAnswer IsReady bytes → IsReplyTo side note bytes
    by_either (inl is) s = subst (λ n. IsReplyTo side (record { 0 = n }) bytes) (sym (eqb-true note.0 5 is)) (phase_ready, Answered bytes s)
    by_either (inr is) s = subst (λ n. IsReplyTo side (record { 0 = n }) bytes) (sym (eqb-true note.0 6 is)) (phase_ready, Synced bytes s)

    by_query : (t : Bool) → (eqb note.0 5 || eqb note.0 6) ≡ t → cond t (scan_messages query_reply bytes) (scan_nothing bytes) ≡ Whole (length bytes) → IsReplyTo side note bytes
    by_query true is q = by_either (or_cases (eqb note.0 5) (eqb note.0 6) is) (query_shown bytes q)
    by_query false is q = absurd (nothing_whole bytes (length bytes) q)

    by_password : (t : Bool) → eqb note.0 4 ≡ t → cond t (scan_messages (logging_in []) bytes) (cond (eqb note.0 5 || eqb note.0 6) (scan_messages query_reply bytes) (scan_nothing bytes)) ≡ Whole (length bytes) → IsReplyTo side note bytes
    by_password true is q = subst (λ n. IsReplyTo side (record { 0 = n }) bytes) (sym (eqb-true note.0 4 is)) (password_reply_shown side bytes q)
    by_password false is q = by_query (eqb note.0 5 || eqb note.0 6) refl q

    by_startup : (t : Bool) → eqb note.0 3 ≡ t → cond t (scan_messages (logging_in (asking_codes side)) bytes) (cond (eqb note.0 4) (scan_messages (logging_in []) bytes) (cond (eqb note.0 5 || eqb note.0 6) (scan_messages query_reply bytes) (scan_nothing bytes))) ≡ Whole (length bytes) → IsReplyTo side note bytes
    by_startup true is q = subst (λ n. IsReplyTo side (record { 0 = n }) bytes) (sym (eqb-true note.0 3 is)) (startup_shown side bytes q)
    by_startup false is q = by_password (eqb note.0 4) refl q

    by_gss : (t : Bool) → eqb note.0 2 ≡ t → cond t (scan_answer 71 bytes) (cond (eqb note.0 3) (scan_messages (logging_in (asking_codes side)) bytes) (cond (eqb note.0 4) (scan_messages (logging_in []) bytes) (cond (eqb note.0 5 || eqb note.0 6) (scan_messages query_reply bytes) (scan_nothing bytes)))) ≡ Whole (length bytes) → IsReplyTo side note bytes
    by_gss true is q = subst (λ n. IsReplyTo side (record { 0 = n }) bytes) (sym (eqb-true note.0 2 is)) (subst (IsReplyTo side note_gss) (answer_shown 71 bytes q) (phase_open, NoGss))
    by_gss false is q = by_startup (eqb note.0 3) refl q

    by_ssl : (t : Bool) → eqb note.0 1 ≡ t → cond t (scan_answer 83 bytes) (cond (eqb note.0 2) (scan_answer 71 bytes) (cond (eqb note.0 3) (scan_messages (logging_in (asking_codes side)) bytes) (cond (eqb note.0 4) (scan_messages (logging_in []) bytes) (cond (eqb note.0 5 || eqb note.0 6) (scan_messages query_reply bytes) (scan_nothing bytes))))) ≡ Whole (length bytes) → IsReplyTo side note bytes
    by_ssl true is q = subst (λ n. IsReplyTo side (record { 0 = n }) bytes) (sym (eqb-true note.0 1 is)) (subst (IsReplyTo side note_ssl) (answer_shown 83 bytes q) (phase_open, NoSsl))
    by_ssl false is q = by_gss (eqb note.0 2) refl q

-- a reply stands exactly where its scan is whole
pub reply_finds : (side : Side) (note : Note) → Finds (IsReplyTo side note) (scan_reply side note)
reply_finds side note = finds (IsReplyTo side note) (scan_reply side note) (reply_framing side note) (reply_shown side note) (λ unit is. reply_made side note is.0 unit is.1)

-- the first of some messages stands at their front
message_first : (letter : ℕ) (content front rest : List ℕ) → IsMessage letter content front → message_at (front ++ rest) 0 ≡ Some (record { letter = letter; from = 5; to = length front })
message_first letter content front rest m =
    let body = m.size ++ content in
    let four = m.four in
    let fits = m.fits in
    let whole : length front ≡ 5 + length content = omega (arith, ap length m.is, length-append m.size content, four) in
    let joined : (letter ∷ body) ++ rest ≡ front ++ rest = ap (λ b. b ++ rest) m.is in
    let size : take 4 (drop 1 (front ++ rest)) ≡ m.size =
    ap (λ b. take 4 (drop 1 b)) (sym joined) ∙ ap (take 4) (append_assoc m.size content rest) ∙ take_at m.size (content ++ rest) 4 four in
    let counted : be_u32_at (front ++ rest) 1 ≡ 4 + length content = ap be_u32 size ∙ m.counts in
    message_made (front ++ rest) 0 (record { letter = letter; from = 5; to = length front }) (record {
      letter = ap (λ b. slice_index b 0) joined;
      from = refl;
      counts = omega (arith, whole, counted);
      ordered = omega (arith, whole);
      within = omega (arith, length-append front rest);
      fits = omega (arith, whole, fits);
    })

-- one message more before others
letter_more : (n k l letter : ℕ) (content front rest : List ℕ) → IsMessage letter content front → length (front ++ rest) ≤ n → ((m : ℕ) → length rest ≤ m → last_letter_up_to m letter rest ≡ l) → last_letter_up_to n k (front ++ rest) ≡ l
letter_more zero k l letter content front rest m room later =
    let four = m.four in
    absurd (omega (arith, length-append front rest, ap length m.is, length-append m.size content, four))
letter_more (suc n) k l letter content front rest m room later =
    let four = m.four in
    ap (λ r. letter_behind r k (λ m. last_letter_up_to n m.letter (drop m.to (front ++ rest)))) (message_first letter content front rest m)
    ∙ ap (last_letter_up_to n letter) (drop_at front rest (length front) refl)
    ∙ later n (omega (arith, length-append front rest, ap length m.is, length-append m.size content, four))

none_more : (n letter : ℕ) → last_letter_up_to n letter [] ≡ letter
none_more zero letter = refl
none_more (suc n) letter = refl

-- some message
record IsMessages (bytes : List ℕ) : Type 0 where
  letter : ℕ
  content : List ℕ
  message : IsMessage letter content bytes

last_of : (I L : List ℕ → Type 0) (l : ℕ) → ((b : List ℕ) → I b → IsMessages b) → ((b : List ℕ) → L b → (content : List ℕ) × IsMessage l content b) → (bytes : List ℕ) → IsSequence I L bytes → (n k : ℕ) → length bytes ≤ n → last_letter_up_to n k bytes ≡ l
last_of I L l each ending bytes (Ends b last) = λ n k room.
    let is = ending b last in
    let same = append-nil b in
    ap (last_letter_up_to n k) (sym same) ∙ letter_more n k l l is.0 b [] is.1 (omega (arith, ap length same)) (λ m more. none_more m l)
last_of I L l each ending bytes (Goes front rest inner sequence) = λ n k room.
    let is = each front inner in
    letter_more n k l is.letter is.content front rest is.message room (λ m more. last_of I L l each ending rest sequence m is.letter more)

step_is : (b : List ℕ) → IsLoginStep b → IsMessages b
step_is b (inl one) = record { letter = one.letter; content = one.content; message = one.message }
step_is b (inr a) = record { letter = a.letter; content = a.named ++ a.rest; message = a.message }

only_letter : (l letter : ℕ) → is_among (l ∷ []) letter ≡ true → l ≡ letter
only_letter l letter among = each_among (λ x. l ≡ x) (l ∷ []) (refl, tt) letter among

ready_is : (b : List ℕ) → IsReady b → (content : List ℕ) × IsMessage 90 content b
ready_is b s = (s.status ∷ [], subst (λ l. IsMessage l (s.status ∷ []) b) (sym (only_letter 90 s.letter s.among)) s.message)

error_is : (b : List ℕ) → IsError b → (content : List ℕ) × IsMessage 69 content b
error_is b one = (one.content, subst (λ l. IsMessage l one.content b) (sym (only_letter 69 one.letter one.among)) one.message)

asking_is : (asked : List ℕ) (b : List ℕ) → IsAuthentication (codes "R") asked b → (content : List ℕ) × IsMessage 82 content b
asking_is asked b a = (a.named ++ a.rest, subst (λ l. IsMessage l (a.named ++ a.rest) b) (sym (only_letter 82 a.letter a.among)) a.message)

-- there is one phase after a reply
pub reply_phased : (side : Side) (note : Note) (phase : Phase) (bytes : List ℕ) → IsReply side note phase bytes → phase ≡ phase_after note bytes
reply_phased side note phase bytes NoSsl = refl
reply_phased side note phase bytes NoGss = refl
reply_phased side note phase bytes (LoggedIn b s) = ap login_phase (sym (last_of IsLoginStep IsReady 90 step_is ready_is b s (length b) 0 (omega arith)))
reply_phased side note phase bytes (Refused b s) = ap login_phase (sym (last_of IsLoginStep IsError 69 step_is error_is b s (length b) 0 (omega arith)))
reply_phased side note phase bytes (Asked b s) = ap login_phase (sym (last_of IsLoginStep (IsAuthentication (codes "R") (asking_codes side)) 82 step_is (asking_is (asking_codes side)) b s (length b) 0 (omega arith)))
reply_phased side note phase bytes (Accepted b s) = ap login_phase (sym (last_of IsLoginStep IsReady 90 step_is ready_is b s (length b) 0 (omega arith)))
reply_phased side note phase bytes (Denied b s) = ap login_phase (sym (last_of IsLoginStep IsError 69 step_is error_is b s (length b) 0 (omega arith)))
reply_phased side note phase bytes (Answered b s) = refl
reply_phased side note phase bytes (Synced b s) = refl

-- a whole reply is one with its phase
pub reply_is : (side : Side) (note : Note) (phase : Phase) (bytes : List ℕ) → scan_reply side note bytes ≡ Whole (length bytes) → phase ≡ phase_after note bytes → IsReply side note phase bytes
reply_is side note phase bytes e same =
    let is = reply_shown side note bytes e in
    subst (λ p. IsReply side note p bytes) (reply_phased side note is.0 bytes is.1 ∙ sym same) is.1
