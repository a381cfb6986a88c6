-- The scan of a request finds exactly the requests of its phase.
use Rattle.std.proofs.Common.{◌≡◌, ℕ, ◌+◌, ◌≤◌, inl, inr, Bool, true, false, ◌||◌, cond, leb, eqb, List, [], ◌∷◌, ◌++◌, length, take, drop, length-append, length-take, length-drop, Option, Some, None, refl, sym, ap, subst, ◌∙◌, arith}
use Rattle.std.specs.Prelude.{◌⊎◌, codes, slice_index}
use Rattle.std.proofs.lemmas.Bool.{leb-true, le-leb, eqb-true, and_parts, and_from, or_cases}
use Rattle.std.proofs.lemmas.List.{take_at, drop_at, take-append-drop}
use Rattle.rd_base.specs.declared.values.Scan.{Scan}
use Rattle.rd_base.specs.declared.values.Scan.TheVariants.{Whole}
use Rattle.rd_base.specs.declared.values.Phase.{Phase}
use Rattle.rd_base.specs.declared.values.Note.{Note}
use Rattle.rd_pg_frame.specs.Letters.{password, ready}
use Rattle.rd_pg_frame.specs.Messages.{be_u32, be_u32_at, is_among, IsMessage}
use Rattle.rd_pg_frame.specs.Scanning.{scan_packet, packet_lengths, scan_messages, scan_nothing, scan_request}
use Rattle.rd_pg_frame.specs.Phases.{phase_open, phase_password, phase_ready, note_ssl, note_gss, note_startup, note_password, note_query, note_extended, note_farewell, open_note, password_note, ready_note, note_of}
use Rattle.rd_pg_frame.specs.Units.{IsPacket, IsOneOf, IsAuthentication, HasStatus, IsSequence, IsRequest, IsRequestIn, Finds}
use Rattle.rd_pg_frame.specs.Units.IsSequence.{Ends, Goes}
use Rattle.rd_pg_frame.specs.Units.IsRequest.{SslRequest, GssRequest, Startup, Password, Query, Extended, PasswordFarewell, Farewell}
use Rattle.rd_pg_frame.specs.Framing.{IsFraming}
use Rattle.rd_pg_frame.specs.PacketLaws.{IsWhole, whole_shows, whole_made, nothing_whole}
use Rattle.rd_pg_frame.specs.UnitLaws.{IsInner, IsLast, unit_shown, unit_made}
use Rattle.rd_pg_frame.specs.TableLaws.{Each, each_among, password_table, ready_table}
use Rattle.rd_pg_frame.specs.ScanLaws.{request_framing}

-- a framing finds units where it is whole on exactly the units
pub finds : (IsUnit : List ℕ → Type 0) (scan : List ℕ → Scan) → IsFraming scan → ((unit : List ℕ) → scan unit ≡ Whole (length unit) → IsUnit unit) → ((unit : List ℕ) → IsUnit unit → scan unit ≡ Whole (length unit)) → Finds IsUnit scan
finds IsUnit scan framing shown made =
    record {
      whole = λ bytes len is. shown (take len bytes) (framing.itself bytes len is);
      found = λ unit more is.
          let whole = made unit is in
          framing.told unit more (λ unclear. let clash = sym whole ∙ unclear in cc) ∙ whole;
    }

pub sequence_map : (I J K L : List ℕ → Type 0) → ((b : List ℕ) → I b → J b) → ((b : List ℕ) → K b → L b) → (bytes : List ℕ) → IsSequence I K bytes → IsSequence J L bytes
sequence_map I J K L f g bytes (Ends b last) = Ends b (g b last)
sequence_map I J K L f g bytes (Goes front rest inner sequence) = Goes front rest (f front inner) (sequence_map I J K L f g rest sequence)

pub none_of : (bytes : List ℕ) → IsOneOf [] bytes → ⊥
none_of bytes one = cc one.among

pub none_asks : (letters : List ℕ) (bytes : List ℕ) → IsAuthentication letters [] bytes → ⊥
none_asks letters bytes a = cc a.code_among

pub none_authenticates : (asked : List ℕ) (bytes : List ℕ) → IsAuthentication [] asked bytes → ⊥
none_authenticates asked bytes a = cc a.among

none_has : (bytes : List ℕ) → HasStatus [] bytes → ⊥
none_has bytes s = cc s.among

-- one of a letter and others is one of the letter, or one of the others
split_one : (x : ℕ) (xs bytes : List ℕ) → IsOneOf (x ∷ xs) bytes → IsOneOf (x ∷ []) bytes ⊎ IsOneOf xs bytes
split_one x xs bytes one = go (eqb x one.letter) refl (or_cases (eqb x one.letter) (is_among xs one.letter) one.among)
  where
    go : (t : Bool) → eqb x one.letter ≡ t → (eqb x one.letter ≡ true) ⊎ (is_among xs one.letter ≡ true) → IsOneOf (x ∷ []) bytes ⊎ IsOneOf xs bytes
    go t is (inl here) = inl (record { letter = one.letter; among = ap (λ b. b || false) here; content = one.content; message = one.message })
    go t is (inr later) = inr (record { letter = one.letter; among = later; content = one.content; message = one.message })

join_first : (x : ℕ) (xs bytes : List ℕ) → IsOneOf (x ∷ []) bytes → IsOneOf (x ∷ xs) bytes
join_first x xs bytes one = record { letter = one.letter; among = go (eqb x one.letter) one.among; content = one.content; message = one.message }
  where
    go : (t : Bool) → (t || false) ≡ true → (t || is_among xs one.letter) ≡ true
    go true e = refl
    go false e = absurd (cc e)

join_later : (x : ℕ) (xs bytes : List ℕ) → IsOneOf xs bytes → IsOneOf (x ∷ xs) bytes
join_later x xs bytes one = record { letter = one.letter; among = go (eqb x one.letter); content = one.content; message = one.message }
  where
    go : (t : Bool) → (t || is_among xs one.letter) ≡ true
    go true = refl
    go false = one.among

-- a password message or the farewell
password_shown : (bytes : List ℕ) → scan_messages password bytes ≡ Whole (length bytes) → IsRequestIn phase_password bytes
password_shown bytes e = go (unit_shown password bytes e)
  where
    alone : IsOneOf (codes "p") bytes ⊎ IsOneOf (codes "X") bytes → IsRequestIn phase_password bytes
    alone (inl password) = (note_password, Password bytes password)
    alone (inr farewell) = (note_farewell, PasswordFarewell bytes farewell)

    never : (b : List ℕ) → IsSequence (IsInner password) (IsLast password) b → ⊥
    never b (Ends c (inl one)) = none_of c one
    never b (Ends c (inr (inl a))) = none_asks [] c a
    never b (Ends c (inr (inr s))) = none_has c s
    never b (Goes front rest inner sequence) = never rest sequence

    go : ((true ≡ true) × IsOneOf (codes "pX") bytes) ⊎ IsSequence (IsInner password) (IsLast password) bytes → IsRequestIn phase_password bytes
    go (inl one) = alone (split_one 112 (codes "X") bytes one.1)
    go (inr sequence) = absurd (never bytes sequence)

ready_inner : (bytes : List ℕ) → IsInner ready bytes → IsOneOf (codes "PBDEC") bytes
ready_inner bytes (inl one) = one
ready_inner bytes (inr a) = absurd (none_asks [] bytes a)

ready_last : (bytes : List ℕ) → IsLast ready bytes → IsOneOf (codes "S") bytes
ready_last bytes (inl one) = one
ready_last bytes (inr (inl a)) = absurd (none_asks [] bytes a)
ready_last bytes (inr (inr s)) = absurd (none_has bytes s)

ready_shown : (bytes : List ℕ) → scan_messages ready bytes ≡ Whole (length bytes) → IsRequestIn phase_ready bytes
ready_shown bytes e = go (unit_shown ready bytes e)
  where
    alone : IsOneOf (codes "Q") bytes ⊎ IsOneOf (codes "X") bytes → IsRequestIn phase_ready bytes
    alone (inl query) = (note_query, Query bytes query)
    alone (inr farewell) = (note_farewell, Farewell bytes farewell)

    go : ((true ≡ true) × IsOneOf (codes "QX") bytes) ⊎ IsSequence (IsInner ready) (IsLast ready) bytes → IsRequestIn phase_ready bytes
    go (inl one) = alone (split_one 81 (codes "X") bytes one.1)
    go (inr sequence) = (note_extended, Extended bytes (sequence_map (IsInner ready) (IsOneOf (codes "PBDEC")) (IsLast ready) (IsOneOf (codes "S")) ready_inner ready_last bytes sequence))

empty_rest : (rest : List ℕ) → length rest ≡ 0 → [] ≡ rest
empty_rest [] e = refl
empty_rest (b ∷ rest) e = absurd (omega arith)

-- a packet by its code
packet_of : (bytes : List ℕ) (least most : ℕ) → IsWhole packet_lengths bytes (length bytes) → IsPacket (be_u32 (take 4 (drop 4 bytes))) (drop 4 (drop 4 bytes)) bytes
packet_of bytes least most w =
    let at_least = leb-true 8 (length bytes) (and_parts (leb 8 (length bytes)) (leb (length bytes) 10000) w.limits).0 in
    let left = length-drop 4 bytes in
    record {
      size = take 4 bytes;
      four = omega (arith, length-take 4 bytes);
      named = take 4 (drop 4 bytes);
      four_more = omega (arith, length-take 4 (drop 4 bytes), left);
      counts = omega (arith, w.counts, length-drop 4 (drop 4 bytes), left);
      code_is = refl;
      is = ap (λ b. take 4 bytes ++ b) (take-append-drop 4 (drop 4 bytes)) ∙ take-append-drop 4 bytes;
    }

abbrev range_from : ℕ → ℕ → Option (ℕ × ℕ)
range_from least most = Some (least, most)

abbrev least_of : Option (ℕ × ℕ) → ℕ
least_of None = 0
least_of (Some range) = range.0

abbrev most_of : Option (ℕ × ℕ) → ℕ
most_of None = 0
most_of (Some range) = range.1

open_shown : (bytes : List ℕ) → scan_packet packet_lengths bytes ≡ Whole (length bytes) → IsRequestIn phase_open bytes
open_shown bytes e = by_code (eqb code 80877103) refl (eqb code 80877104) refl (eqb code 196608) refl
  where
    w : IsWhole packet_lengths bytes (length bytes)
    w = whole_shows packet_lengths bytes (length bytes) e

    code : ℕ
    code = be_u32 (take 4 (drop 4 bytes))

    rest : List ℕ
    rest = drop 4 (drop 4 bytes)

    packet : IsPacket code rest bytes
    packet = packet_of bytes 0 0 w

    at_least : 8 ≤ length bytes
    at_least = leb-true 8 (length bytes) (and_parts (leb 8 (length bytes)) (leb (length bytes) 10000) w.limits).0

    all : 8 + length rest ≡ length bytes
    all = let left = length-drop 4 bytes in omega (arith, length-drop 4 (drop 4 bytes), left, at_least)

    ranged : (least most : ℕ) → range_from least most ≡ range_from w.least w.most → (least ≤ length bytes) × (length bytes ≤ most)
    ranged least most same =
        let low : least ≡ w.least = ap least_of same in
        let high : most ≡ w.most = ap most_of same in
        let fits = and_parts (leb w.least (length bytes)) (leb (length bytes) w.most) w.fits in
        (omega (arith, low, leb-true w.least (length bytes) fits.0), omega (arith, high, leb-true (length bytes) w.most fits.1))

    short : (c : ℕ) → code ≡ c → range_from 8 8 ≡ range_from w.least w.most → IsPacket c [] bytes
    short c is same =
        let fits = ranged 8 8 same in
        subst (λ r. IsPacket c r bytes) (sym (empty_rest rest (omega (arith, all, fits.1)))) (subst (λ n. IsPacket n rest bytes) is packet)

    by_code : (s : Bool) → eqb code 80877103 ≡ s → (g : Bool) → eqb code 80877104 ≡ g → (v : Bool) → eqb code 196608 ≡ v → IsRequestIn phase_open bytes
    by_code true is g gss v version = (
      note_ssl,
      SslRequest bytes (short 80877103 (eqb-true code 80877103 is)
          (sym (ap (λ t. cond (t || eqb code 80877104) (range_from 8 8) (cond (eqb code 196608) (range_from 9 10000) None)) is) ∙ w.stands)),
    )
    by_code false is true gss v version = (
      note_gss,
      GssRequest bytes (short 80877104 (eqb-true code 80877104 gss)
          (sym (ap (λ t. cond (t || eqb code 80877104) (range_from 8 8) (cond (eqb code 196608) (range_from 9 10000) None)) is
          ∙ ap (λ t. cond t (range_from 8 8) (cond (eqb code 196608) (range_from 9 10000) None)) gss) ∙ w.stands)),
    )
    by_code false is false gss true version =
        let fits = ranged 9 10000
        (sym (ap (λ t. cond (t || eqb code 80877104) (range_from 8 8) (cond (eqb code 196608) (range_from 9 10000) None)) is
        ∙ ap (λ t. cond t (range_from 8 8) (cond (eqb code 196608) (range_from 9 10000) None)) gss
        ∙ ap (λ t. cond t (range_from 9 10000) None) version) ∙ w.stands) in
        (note_startup, Startup rest bytes (omega (arith, all, fits.0)) (omega (arith, all, fits.1)) (subst (λ n. IsPacket n rest bytes) (eqb-true code 196608 version) packet))
    by_code false is false gss false version =
        absurd (cc (sym (ap (λ t. cond (t || eqb code 80877104) (range_from 8 8) (cond (eqb code 196608) (range_from 9 10000) None)) is
        ∙ ap (λ t. cond t (range_from 8 8) (cond (eqb code 196608) (range_from 9 10000) None)) gss
        ∙ ap (λ t. cond t (range_from 9 10000) None) version) ∙ w.stands))

packet_made : (code : ℕ) (rest bytes : List ℕ) (least most : ℕ) → packet_lengths code ≡ range_from least most → least ≤ 8 + length rest → 8 + length rest ≤ most → 8 + length rest ≤ 10000 → IsPacket code rest bytes → scan_packet packet_lengths bytes ≡ Whole (length bytes)
packet_made code rest bytes least most stands low high limit p =
    let named = p.named ++ rest in
    let four = p.four in
    let all : length bytes ≡ 8 + length rest = omega (arith, ap length p.is, length-append p.size named, length-append p.named rest, p.four_more) in
    let first : take 4 bytes ≡ p.size = ap (take 4) (sym p.is) ∙ take_at p.size named 4 four in
    let second : take 4 (drop 4 bytes) ≡ p.named = ap (λ b. take 4 (drop 4 b)) (sym p.is) ∙ ap (take 4) (drop_at p.size named 4 four) ∙ take_at p.named rest 4 p.four_more in
    whole_made packet_lengths bytes (length bytes) (record {
      least = least;
      most = most;
      counts = ap be_u32 first ∙ p.counts ∙ sym all;
      limits = and_from (leb 8 (length bytes)) (leb (length bytes) 10000) (le-leb 8 (length bytes) (omega (arith, all))) (le-leb (length bytes) 10000 (omega (arith, all)));
      stands = ap (λ b. packet_lengths (be_u32 b)) second ∙ ap packet_lengths p.code_is ∙ stands;
      fits = and_from (leb least (length bytes)) (leb (length bytes) most) (le-leb least (length bytes) (omega (arith, all))) (le-leb (length bytes) most (omega (arith, all)));
      there = omega arith;
    })

ready_made : (bytes : List ℕ) → IsSequence (IsOneOf (codes "PBDEC")) (IsOneOf (codes "S")) bytes → IsSequence (IsInner ready) (IsLast ready) bytes
ready_made bytes sequence = sequence_map (IsOneOf (codes "PBDEC")) (IsInner ready) (IsOneOf (codes "S")) (IsLast ready) (λ b one. inl one) (λ b one. inl one) bytes sequence

request_made : (phase : Phase) (note : Note) (bytes : List ℕ) → IsRequest phase note bytes → scan_request phase bytes ≡ Whole (length bytes)
request_made phase note bytes (SslRequest b p) = packet_made 80877103 [] b 8 8 refl (omega arith) (omega arith) (omega arith) p
request_made phase note bytes (GssRequest b p) = packet_made 80877104 [] b 8 8 refl (omega arith) (omega arith) (omega arith) p
request_made phase note bytes (Startup rest b low high p) = packet_made 196608 rest b 9 10000 refl low high high p
request_made phase note bytes (Password b one) = unit_made password password_table b (inl (refl, join_first 112 (codes "X") b one))
request_made phase note bytes (PasswordFarewell b one) = unit_made password password_table b (inl (refl, join_later 112 (codes "X") b one))
request_made phase note bytes (Query b one) = unit_made ready ready_table b (inl (refl, join_first 81 (codes "X") b one))
request_made phase note bytes (Farewell b one) = unit_made ready ready_table b (inl (refl, join_later 81 (codes "X") b one))
request_made phase note bytes (Extended b sequence) = unit_made ready ready_table b (inr (ready_made b sequence))

request_shown : (phase : Phase) (bytes : List ℕ) → scan_request phase bytes ≡ Whole (length bytes) → IsRequestIn phase bytes
request_shown phase bytes e = by_open (eqb phase.0 0) refl e
  where
    by_ready : (t : Bool) → eqb phase.0 2 ≡ t → cond t (scan_messages ready bytes) (scan_nothing bytes) ≡ Whole (length bytes) → IsRequestIn phase bytes
    by_ready true is q = subst (λ n. IsRequestIn (record { 0 = n }) bytes) (sym (eqb-true phase.0 2 is)) (ready_shown bytes q)
    by_ready false is q = absurd (nothing_whole bytes (length bytes) q)

    by_password : (t : Bool) → eqb phase.0 1 ≡ t → cond t (scan_messages password bytes) (cond (eqb phase.0 2) (scan_messages ready bytes) (scan_nothing bytes)) ≡ Whole (length bytes) → IsRequestIn phase bytes
    by_password true is q = subst (λ n. IsRequestIn (record { 0 = n }) bytes) (sym (eqb-true phase.0 1 is)) (password_shown bytes q)
    by_password false is q = by_ready (eqb phase.0 2) refl q

    by_open : (t : Bool) → eqb phase.0 0 ≡ t → cond t (scan_packet packet_lengths bytes) (cond (eqb phase.0 1) (scan_messages password bytes) (cond (eqb phase.0 2) (scan_messages ready bytes) (scan_nothing bytes))) ≡ Whole (length bytes) → IsRequestIn phase bytes
    by_open true is q = subst (λ n. IsRequestIn (record { 0 = n }) bytes) (sym (eqb-true phase.0 0 is)) (open_shown bytes q)
    by_open false is q = by_password (eqb phase.0 1) refl q

-- a request stands exactly where its scan is whole
pub request_finds : (phase : Phase) → Finds (IsRequestIn phase) (scan_request phase)
request_finds phase = finds (IsRequestIn phase) (scan_request phase) (request_framing phase) (request_shown phase) (λ unit is. request_made phase is.0 unit is.1)

-- the first byte is the letter of the first message
first_letter : (letter : ℕ) (content bytes more : List ℕ) → IsMessage letter content bytes → letter ≡ slice_index (bytes ++ more) 0
first_letter letter content bytes more m = ap (λ b. slice_index (b ++ more) 0) m.is

first_of : (letters bytes more : List ℕ) (P : ℕ → Type 0) → Each P letters → IsOneOf letters bytes → P (slice_index (bytes ++ more) 0)
first_of letters bytes more P each one = subst P (first_letter one.letter one.content bytes more one.message) (each_among P letters each one.letter one.among)

only_of : (letters bytes : List ℕ) (P : ℕ → Type 0) → Each P letters → IsOneOf letters bytes → P (slice_index bytes 0)
only_of letters bytes P each one = subst P (ap (λ b. slice_index b 0) one.message.is) (each_among P letters each one.letter one.among)

sequence_first : (bytes : List ℕ) → IsSequence (IsOneOf (codes "PBDEC")) (IsOneOf (codes "S")) bytes → note_extended ≡ ready_note (slice_index bytes 0)
sequence_first bytes (Ends b last) = only_of (codes "S") b (λ l. note_extended ≡ ready_note l) (refl, tt) last
sequence_first bytes (Goes front rest inner sequence) =
    first_of (codes "PBDEC") front rest (λ l. note_extended ≡ ready_note l) (refl, (refl, (refl, (refl, (refl, tt))))) inner

open_noted : (code : ℕ) (rest bytes : List ℕ) → IsPacket code rest bytes → open_note code ≡ open_note (be_u32_at bytes 4)
open_noted code rest bytes p =
    let named = p.named ++ rest in
    let second : take 4 (drop 4 bytes) ≡ p.named = ap (λ b. take 4 (drop 4 b)) (sym p.is) ∙ ap (take 4) (drop_at p.size named 4 p.four) ∙ take_at p.named rest 4 p.four_more in
    ap open_note (sym (ap be_u32 second ∙ p.code_is))

-- a request has one note
pub request_noted : (phase : Phase) (note : Note) (bytes : List ℕ) → IsRequest phase note bytes → note ≡ note_of phase bytes
request_noted phase note bytes (SslRequest b p) = open_noted 80877103 [] b p
request_noted phase note bytes (GssRequest b p) = open_noted 80877104 [] b p
request_noted phase note bytes (Startup rest b low high p) = open_noted 196608 rest b p
request_noted phase note bytes (Password b one) = only_of (codes "p") b (λ l. note_password ≡ password_note l) (refl, tt) one
request_noted phase note bytes (PasswordFarewell b one) = only_of (codes "X") b (λ l. note_farewell ≡ password_note l) (refl, tt) one
request_noted phase note bytes (Query b one) = only_of (codes "Q") b (λ l. note_query ≡ ready_note l) (refl, tt) one
request_noted phase note bytes (Farewell b one) = only_of (codes "X") b (λ l. note_farewell ≡ ready_note l) (refl, tt) one
request_noted phase note bytes (Extended b sequence) = sequence_first b sequence

-- a whole request is one with its note
pub request_is : (phase : Phase) (note : Note) (bytes : List ℕ) → scan_request phase bytes ≡ Whole (length bytes) → note ≡ note_of phase bytes → IsRequest phase note bytes
request_is phase note bytes e same =
    let is = request_shown phase bytes e in
    subst (λ n. IsRequest phase n bytes) (request_noted phase is.0 bytes is.1 ∙ sym same) is.1
