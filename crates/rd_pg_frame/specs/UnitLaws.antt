-- A scan of messages finds exactly the sequences of messages that its letters make.
use Rattle.std.proofs.Common.{◌≡◌, ℕ, zero, suc, ◌+◌, ◌≤◌, ◌^◌, ◌⊎◌, inl, inr, Bool, true, false, ◌&&◌, cond, leb, ltb, eqb, List, [], ◌∷◌, ◌++◌, length, take, drop, length-append, length-take, length-drop, Result, Ok, Err, refl, sym, ap, subst, ◌∙◌, arith}
use Rattle.std.specs.Prelude.{codes}
use Rattle.std.proofs.lemmas.Bool.{ltb-true, ltb-false, le-leb, lt-ltb, le-ltb, eqb-true, and_parts, and_from}
use Rattle.std.proofs.lemmas.List.{take_at, drop_at, take-append-drop}
use Rattle.rd_base.specs.Scans.{behind}
use Rattle.rd_base.specs.declared.values.Scan.{Scan}
use Rattle.rd_base.specs.declared.values.Scan.TheVariants.{Whole, More, Bad, Unsupported}
use Rattle.rd_pg_frame.specs.declared.role.Role.{Role}
use Rattle.rd_pg_frame.specs.declared.role.Role.TheVariants.{Inner, Last, Authentication, Status}
use Rattle.rd_pg_frame.specs.declared.front.Front.{Front}
use Rattle.rd_pg_frame.specs.Letters.{Letters}
use Rattle.rd_pg_frame.specs.Messages.{be_u32, is_length, is_among, IsMessage}
use Rattle.rd_pg_frame.specs.Fronts.{role_of, code_ends, status_ends, ends, front_of}
use Rattle.rd_pg_frame.specs.FrontLaws.{front_shows, front_made, front_fits, front_itself, front_keeps, Keeps}
use Rattle.rd_pg_frame.specs.Scanning.{go_on, scan_up_to, scan_messages}
use Rattle.rd_pg_frame.specs.MessageLaws.{behind_whole, stopped_never}
use Rattle.rd_pg_frame.specs.Units.{IsOneOf, IsAuthentication, HasStatus, IsSequence}
use Rattle.rd_pg_frame.specs.Units.IsSequence.{Ends, Goes}

-- a whole message by its role
record IsWhole (letters : Letters) (is_first is_last : Bool) (bytes : List ℕ) : Type 0 where
  letter : ℕ
  content : List ℕ
  role : Role
  message : IsMessage letter content bytes
  stands : role_of letters is_first letter ≡ Ok role
  judged : ends letters role (4 + length content) content ≡ Ok is_last

whole_shows : (letters : Letters) (is_first : Bool) (bytes : List ℕ) (front : Front) → front_of letters is_first bytes ≡ Ok front → front.size ≡ length bytes → IsWhole letters is_first front.is_last bytes
whole_shows letters is_first bytes front e all =
    let shown = front_shows letters is_first bytes front e in
    let rest = shown.rest in
    let four = shown.four in
    let len = be_u32 (take 4 rest) in
    let full : len ≡ length rest = omega (arith, shown.size, all, ap length shown.is) in
    let left : 4 + length (drop 4 rest) ≡ len = omega (arith, length-drop 4 rest, full) in
    let limits = and_parts (leb 4 len) (ltb len (2 ^ 31)) shown.counts in
    record {
      letter = shown.letter;
      content = drop 4 rest;
      role = shown.role;
      message = record {
        size = take 4 rest;
        four = omega (arith, length-take 4 rest);
        counts = sym left;
        fits = omega (arith, left, ltb-true len (2 ^ 31) limits.1);
        is = ap (λ r. shown.letter ∷ r) (take-append-drop 4 rest) ∙ shown.is;
      };
      stands = shown.stands;
      judged = ap (λ n. ends letters shown.role n (drop 4 rest)) left ∙ shown.judged;
    }

whole_made : (letters : Letters) (is_first is_last : Bool) (bytes : List ℕ) → IsWhole letters is_first is_last bytes → front_of letters is_first bytes ≡ Ok (record { size = length bytes; is_last = is_last })
whole_made letters is_first is_last bytes w =
    let m = w.message in
    let rest = m.size ++ w.content in
    let counted : be_u32 (take 4 rest) ≡ 4 + length w.content = ap be_u32 (take_at m.size w.content 4 m.four) ∙ m.counts in
    let all : length rest ≡ 4 + length w.content = omega (arith, length-append m.size w.content, m.four) in
    let fits = m.fits in
    front_made letters is_first bytes (record { size = length bytes; is_last = is_last }) (record {
      letter = w.letter;
      rest = rest;
      role = w.role;
      is = m.is;
      stands = w.stands;
      four = omega (arith, all);
      counts = ap is_length counted ∙ and_from (leb 4 (4 + length w.content)) (ltb (4 + length w.content) (2 ^ 31)) (le-leb 4 (4 + length w.content) (omega arith)) (lt-ltb (4 + length w.content) (2 ^ 31) fits);
      judged = ap (λ n. ends letters w.role n (drop 4 rest)) counted ∙ ap (ends letters w.role (4 + length w.content)) (drop_at m.size w.content 4 m.four) ∙ w.judged;
      there = omega (arith, all, counted);
      size = omega (arith, all, counted, ap length m.is);
    })

-- where a letter with a role stands
RoleShows : Letters → Bool → ℕ → Role → Type 0
RoleShows letters is_first letter Inner = is_among letters.inner letter ≡ true
RoleShows letters is_first letter Last = ((is_first ≡ true) × (is_among letters.alone letter ≡ true)) ⊎ (is_among letters.last letter ≡ true)
RoleShows letters is_first letter Authentication = is_among letters.authentication letter ≡ true
RoleShows letters is_first letter Status = is_among letters.status letter ≡ true

choose : (P : Role → Type 0) (t : Bool) (r : Result Role Scan) (mine role : Role) → (t ≡ true → P mine) → (r ≡ Ok role → P role) → cond t (Ok mine) r ≡ Ok role → P role
choose P true r mine role chosen later e = let same : mine ≡ role = cc e in subst P same (chosen refl)
choose P false r mine role chosen later e = later e

refuse : (t : Bool) (p q : Scan) (role : Role) → cond t (Err p) (Err q) ≡ Ok role → ⊥
refuse true p q role e = cc e
refuse false p q role e = cc e

role_shows : (letters : Letters) (is_first : Bool) (letter : ℕ) (role : Role) → role_of letters is_first letter ≡ Ok role → RoleShows letters is_first letter role
unfolding RoleShows
role_shows letters is_first letter role e =
    let P : Role → Type 0 = RoleShows letters is_first letter in
    choose P (is_first && is_among letters.alone letter) _ Last role (λ is. inl (and_parts is_first (is_among letters.alone letter) is))
    (choose P (is_among letters.inner letter) _ Inner role (λ is. is)
    (choose P (is_among letters.last letter) _ Last role (λ is. inr is)
    (choose P (is_among letters.authentication letter) _ Authentication role (λ is. is)
    (choose P (is_among letters.status letter) _ Status role (λ is. is)
    (λ q. absurd (refuse (is_among letters.unsupported letter) (Unsupported letter) Bad role q))))))
    e

-- which codes an ending or another code stands among
abbrev codes_for : Letters → Bool → List ℕ
codes_for letters false = letters.inner_codes
codes_for letters true = letters.last_codes

code_shows : (letters : Letters) (code : ℕ) (is_last : Bool) → code_ends letters code ≡ Ok is_last → is_among (codes_for letters is_last) code ≡ true
code_shows letters code is_last e = go (is_among letters.inner_codes code) refl e
  where
    by_last : (t : Bool) → is_among letters.last_codes code ≡ t → cond t (Ok true) (Err (Unsupported code)) ≡ Ok is_last → is_among (codes_for letters is_last) code ≡ true
    by_last true is q = let same : true ≡ is_last = cc q in subst (λ b. is_among (codes_for letters b) code ≡ true) same is
    by_last false is q = absurd (cc q)

    go : (t : Bool) → is_among letters.inner_codes code ≡ t → cond t (Ok false) (cond (is_among letters.last_codes code) (Ok true) (Err (Unsupported code))) ≡ Ok is_last → is_among (codes_for letters is_last) code ≡ true
    go true is q = let same : false ≡ is_last = cc q in subst (λ b. is_among (codes_for letters b) code ≡ true) same is
    go false is q = by_last (is_among letters.last_codes code) refl q

authentication_shows : (letters : Letters) (letter : ℕ) (content bytes : List ℕ) (is_last : Bool) → IsMessage letter content bytes → is_among letters.authentication letter ≡ true → ends letters Authentication (4 + length content) content ≡ Ok is_last → IsAuthentication letters.authentication (codes_for letters is_last) bytes
authentication_shows letters letter content bytes is_last message among e = by_len (ltb (4 + length content) 8) refl e
  where
    by_size : 8 ≤ 4 + length content → (t : Bool) → cond t (Err More) (code_ends letters (be_u32 (take 4 content))) ≡ Ok is_last → IsAuthentication letters.authentication (codes_for letters is_last) bytes
    by_size room true q = absurd (cc q)
    by_size room false q =
        record {
          letter = letter;
          among = among;
          named = take 4 content;
          four = omega (arith, length-take 4 content, room);
          code_among = code_shows letters (be_u32 (take 4 content)) is_last q;
          rest = drop 4 content;
          message = subst (λ c. IsMessage letter c bytes) (sym (take-append-drop 4 content)) message;
        }

    by_len : (t : Bool) → ltb (4 + length content) 8 ≡ t → cond t (Err Bad) (cond (ltb (length content) 4) (Err More) (code_ends letters (be_u32 (take 4 content)))) ≡ Ok is_last → IsAuthentication letters.authentication (codes_for letters is_last) bytes
    by_len true is q = absurd (cc q)
    by_len false is q = by_size (ltb-false (4 + length content) 8 is) (ltb (length content) 4) q

status_shows : (letters : Letters) (letter : ℕ) (content bytes : List ℕ) (is_last : Bool) → IsMessage letter content bytes → is_among letters.status letter ≡ true → ends letters Status (4 + length content) content ≡ Ok is_last → HasStatus letters.status bytes × (is_last ≡ true)
status_shows letters letter content bytes is_last message among e = by_len (eqb (4 + length content) 5) refl e
  where
    by_status : (status : ℕ) (rest : List ℕ) → status ∷ rest ≡ content → 4 + length content ≡ 5 → (t : Bool) → is_among (codes "ITE") status ≡ t → cond t (Ok true) (Err Bad) ≡ Ok is_last → HasStatus letters.status bytes × (is_last ≡ true)
    by_status status [] is five true fits q =
        (record { letter = letter; among = among; status = status; status_among = fits; message = subst (λ c. IsMessage letter c bytes) (sym is) message }, let same : true ≡ is_last = cc q in sym same)
    by_status status (b ∷ rest) is five true fits q = absurd (omega (arith, five, ap length is))
    by_status status rest is five false fits q = absurd (cc q)

    by_content : (c : List ℕ) → c ≡ content → 4 + length content ≡ 5 → status_ends c ≡ Ok is_last → HasStatus letters.status bytes × (is_last ≡ true)
    by_content [] is five q = absurd (cc q)
    by_content (status ∷ rest) is five q = by_status status rest is five (is_among (codes "ITE") status) refl q

    by_len : (t : Bool) → eqb (4 + length content) 5 ≡ t → cond t (status_ends content) (Err Bad) ≡ Ok is_last → HasStatus letters.status bytes × (is_last ≡ true)
    by_len true is q = by_content content refl (eqb-true (4 + length content) 5 is) q
    by_len false is q = absurd (cc q)

-- a message that stands before the last, and a last one
abbrev pub IsInner : Letters → List ℕ → Type 0
IsInner letters bytes = IsOneOf letters.inner bytes ⊎ IsAuthentication letters.authentication letters.inner_codes bytes

abbrev pub IsLast : Letters → List ℕ → Type 0
IsLast letters bytes = IsOneOf letters.last bytes ⊎ (IsAuthentication letters.authentication letters.last_codes bytes ⊎ HasStatus letters.status bytes)

abbrev IsEnd : Letters → Bool → List ℕ → Type 0
IsEnd letters is_first bytes = ((is_first ≡ true) × IsOneOf letters.alone bytes) ⊎ IsLast letters bytes

inner_of : (letters : Letters) (is_first : Bool) (bytes : List ℕ) → IsWhole letters is_first false bytes → IsInner letters bytes
unfolding RoleShows
inner_of letters is_first bytes w = go w.role (role_shows letters is_first w.letter w.role w.stands) w.judged
  where
    go : (role : Role) → RoleShows letters is_first w.letter role → ends letters role (4 + length w.content) w.content ≡ Ok false → IsInner letters bytes
    go Inner shows q = inl (record { letter = w.letter; among = shows; content = w.content; message = w.message })
    go Last shows q = absurd (cc q)
    go Authentication shows q = inr (authentication_shows letters w.letter w.content bytes false w.message shows q)
    go Status shows q = absurd (cc (status_shows letters w.letter w.content bytes false w.message shows q).1)

end_of : (letters : Letters) (is_first : Bool) (bytes : List ℕ) → IsWhole letters is_first true bytes → IsEnd letters is_first bytes
unfolding RoleShows
end_of letters is_first bytes w = go w.role (role_shows letters is_first w.letter w.role w.stands) w.judged
  where
    by_last : ((is_first ≡ true) × (is_among letters.alone w.letter ≡ true)) ⊎ (is_among letters.last w.letter ≡ true) → IsEnd letters is_first bytes
    by_last (inl alone) = inl (alone.0, record { letter = w.letter; among = alone.1; content = w.content; message = w.message })
    by_last (inr last) = inr (inl (record { letter = w.letter; among = last; content = w.content; message = w.message }))

    go : (role : Role) → RoleShows letters is_first w.letter role → ends letters role (4 + length w.content) w.content ≡ Ok true → IsEnd letters is_first bytes
    go Inner shows q = absurd (cc q)
    go Last shows q = by_last shows
    go Authentication shows q = inr (inr (inl (authentication_shows letters w.letter w.content bytes true w.message shows q)))
    go Status shows q = inr (inr (inr (status_shows letters w.letter w.content bytes true w.message shows q).0))

-- a unit of messages: one that stands alone, or a sequence
abbrev pub IsUnitOf : Letters → Bool → List ℕ → Type 0
IsUnitOf letters is_first bytes = ((is_first ≡ true) × IsOneOf letters.alone bytes) ⊎ IsSequence (IsInner letters) (IsLast letters) bytes

messages_shown : (n : ℕ) (letters : Letters) (is_first : Bool) (bytes : List ℕ) → scan_up_to n letters is_first bytes ≡ Whole (length bytes) → IsUnitOf letters is_first bytes
messages_shown zero letters is_first bytes e = absurd (cc e)
messages_shown (suc n) letters is_first bytes e = go (λ rest. messages_shown n letters false rest) (front_of letters is_first bytes) refl e
  where
    by_end : IsEnd letters is_first bytes → IsUnitOf letters is_first bytes
    by_end (inl alone) = inl alone
    by_end (inr last) = inr (Ends bytes last)

    by_rest : (front : List ℕ) (rest : List ℕ) → IsInner letters front → IsUnitOf letters false rest → IsSequence (IsInner letters) (IsLast letters) (front ++ rest)
    by_rest front rest inner (inl alone) = absurd (cc alone.0)
    by_rest front rest inner (inr sequence) = Goes front rest inner sequence

    by_last : ((rest : List ℕ) → scan_up_to n letters false rest ≡ Whole (length rest) → IsUnitOf letters false rest)
        → (front : Front) → front_of letters is_first bytes ≡ Ok front → (t : Bool) → front.is_last ≡ t
        → cond t (Whole front.size) (behind front.size (scan_up_to n letters false (drop front.size bytes))) ≡ Whole (length bytes) → IsUnitOf letters is_first bytes
    by_last ih front is true last q =
        let all : front.size ≡ length bytes = cc q in
        by_end (end_of letters is_first bytes (subst (λ t. IsWhole letters is_first t bytes) last (whole_shows letters is_first bytes front is all)))
    by_last ih front is false inner q =
        let more = behind_whole front.size (scan_up_to n letters false (drop front.size bytes)) (length bytes) q in
        let fits = front_fits letters is_first bytes front is in
        let left : more.0 ≡ length (drop front.size bytes) = omega (arith, length-drop front.size bytes, more.2) in
        let size : front.size ≡ length (take front.size bytes) = omega (arith, length-take front.size bytes, fits.1) in
        let shown = whole_shows letters is_first (take front.size bytes) front (front_itself letters is_first bytes front is) size in
        let step = inner_of letters is_first (take front.size bytes) (subst (λ t. IsWhole letters is_first t (take front.size bytes)) inner shown) in
        inr (subst (IsSequence (IsInner letters) (IsLast letters)) (take-append-drop front.size bytes)
        (by_rest (take front.size bytes) (drop front.size bytes) step (ih (drop front.size bytes) (more.1 ∙ ap Whole left))))

    go : ((rest : List ℕ) → scan_up_to n letters false rest ≡ Whole (length rest) → IsUnitOf letters false rest)
        → (r : Result Front Scan) → front_of letters is_first bytes ≡ r
        → go_on r (λ size. scan_up_to n letters false (drop size bytes)) ≡ Whole (length bytes) → IsUnitOf letters is_first bytes
    go ih (Ok front) is q = by_last ih front is front.is_last refl q
    go ih (Err scan) is q = absurd (stopped_never letters is_first bytes scan (length bytes) is q)

-- no letter and no code stands in two lists
pub record IsTable (letters : Letters) : Type 0 where
  pub inner : (is_first : Bool) (letter : ℕ) → is_among letters.inner letter ≡ true → role_of letters is_first letter ≡ Ok Inner
  pub last : (is_first : Bool) (letter : ℕ) → is_among letters.last letter ≡ true → role_of letters is_first letter ≡ Ok Last
  pub authentication : (is_first : Bool) (letter : ℕ) → is_among letters.authentication letter ≡ true → role_of letters is_first letter ≡ Ok Authentication
  pub status : (is_first : Bool) (letter : ℕ) → is_among letters.status letter ≡ true → role_of letters is_first letter ≡ Ok Status
  pub last_codes : (code : ℕ) → is_among letters.last_codes code ≡ true → code_ends letters code ≡ Ok true

code_made : (letters : Letters) → IsTable letters → (is_last : Bool) (code : ℕ) → is_among (codes_for letters is_last) code ≡ true → code_ends letters code ≡ Ok is_last
code_made letters table true code among = table.last_codes code among
code_made letters table false code among = ap (λ t. cond t (Ok false) (cond (is_among letters.last_codes code) (Ok true) (Err (Unsupported code)))) among

authentication_made : (letters : Letters) → IsTable letters → (is_first is_last : Bool) (bytes : List ℕ) → IsAuthentication letters.authentication (codes_for letters is_last) bytes → IsWhole letters is_first is_last bytes
authentication_made letters table is_first is_last bytes a =
    let content = a.named ++ a.rest in
    let size = length-append a.named a.rest in
    let four = a.four in
    record {
      letter = a.letter;
      content = content;
      role = Authentication;
      message = a.message;
      stands = table.authentication is_first a.letter a.among;
      judged = ap (λ t. cond t (Err Bad) (cond (ltb (length content) 4) (Err More) (code_ends letters (be_u32 (take 4 content))))) (le-ltb (4 + length content) 8 (omega arith))
          ∙ ap (λ t. cond t (Err More) (code_ends letters (be_u32 (take 4 content)))) (le-ltb (length content) 4 (omega arith))
          ∙ ap (λ b. code_ends letters (be_u32 b)) (take_at a.named a.rest 4 four)
          ∙ code_made letters table is_last (be_u32 a.named) a.code_among;
    }

inner_made : (letters : Letters) → IsTable letters → (is_first : Bool) (bytes : List ℕ) → IsInner letters bytes → IsWhole letters is_first false bytes
inner_made letters table is_first bytes (inl one) =
    record { letter = one.letter; content = one.content; role = Inner; message = one.message; stands = table.inner is_first one.letter one.among; judged = refl }
inner_made letters table is_first bytes (inr a) = authentication_made letters table is_first false bytes a

last_made : (letters : Letters) → IsTable letters → (is_first : Bool) (bytes : List ℕ) → IsLast letters bytes → IsWhole letters is_first true bytes
last_made letters table is_first bytes (inl one) =
    record { letter = one.letter; content = one.content; role = Last; message = one.message; stands = table.last is_first one.letter one.among; judged = refl }
last_made letters table is_first bytes (inr (inl a)) = authentication_made letters table is_first true bytes a
last_made letters table is_first bytes (inr (inr s)) =
    record {
      letter = s.letter;
      content = s.status ∷ [];
      role = Status;
      message = s.message;
      stands = table.status is_first s.letter s.among;
      judged = ap (λ t. cond t (Ok true) (Err Bad)) s.status_among;
    }

alone_made : (letters : Letters) (bytes : List ℕ) → IsOneOf letters.alone bytes → IsWhole letters true true bytes
alone_made letters bytes one =
    record {
      letter = one.letter;
      content = one.content;
      role = Last;
      message = one.message;
      stands = ap (λ t. cond t (Ok Last) (role_of (record letters { alone = [] }) true one.letter)) one.among;
      judged = refl;
    }

end_made : (n : ℕ) (letters : Letters) (is_first : Bool) (bytes : List ℕ) → length bytes ≤ n → IsWhole letters is_first true bytes → scan_up_to n letters is_first bytes ≡ Whole (length bytes)
end_made zero letters is_first bytes room w = let fits = front_fits letters is_first bytes _ (whole_made letters is_first true bytes w) in absurd (omega (arith, fits.0, fits.1))
end_made (suc n) letters is_first bytes room w = ap (λ r. go_on r (λ size. scan_up_to n letters false (drop size bytes))) (whole_made letters is_first true bytes w)

step_made : (n : ℕ) (letters : Letters) (is_first : Bool) (front rest : List ℕ) → length (front ++ rest) ≤ n → IsWhole letters is_first false front → ((m : ℕ) → length rest ≤ m → scan_up_to m letters false rest ≡ Whole (length rest)) → scan_up_to n letters is_first (front ++ rest) ≡ Whole (length (front ++ rest))
step_made n letters is_first front rest room w later = go n room
  where
    made : front_of letters is_first front ≡ Ok (record { size = length front; is_last = false })
    made = whole_made letters is_first false front w

    stays : front_of letters is_first (front ++ rest) ≡ Ok (record { size = length front; is_last = false })
    stays = subst (λ r. Keeps r (front_of letters is_first (front ++ rest))) made (front_keeps letters is_first front rest)

    go : (n : ℕ) → length (front ++ rest) ≤ n → scan_up_to n letters is_first (front ++ rest) ≡ Whole (length (front ++ rest))
    go zero room = let fits = front_fits letters is_first (front ++ rest) _ stays in absurd (omega (arith, fits.0, fits.1))
    go (suc n) room =
        let fits = front_fits letters is_first front _ made in
        let size = length-append front rest in
        ap (λ r. go_on r (λ size. scan_up_to n letters false (drop size (front ++ rest)))) stays
        ∙ ap (λ b. behind (length front) (scan_up_to n letters false b)) (drop_at front rest (length front) refl)
        ∙ ap (behind (length front)) (later n (omega (arith, fits.0, size)))
        ∙ ap Whole (sym size)

sequence_made : (letters : Letters) → IsTable letters → (bytes : List ℕ) → IsSequence (IsInner letters) (IsLast letters) bytes → (is_first : Bool) (n : ℕ) → length bytes ≤ n → scan_up_to n letters is_first bytes ≡ Whole (length bytes)
sequence_made letters table bytes (Ends b last) = λ is_first n room. end_made n letters is_first b room (last_made letters table is_first b last)
sequence_made letters table bytes (Goes front rest inner sequence) = λ is_first n room.
    step_made n letters is_first front rest room (inner_made letters table is_first front inner) (λ m more. sequence_made letters table rest sequence false m more)

-- a unit of messages scans as whole, and what scans as whole is one
pub unit_shown : (letters : Letters) (bytes : List ℕ) → scan_messages letters bytes ≡ Whole (length bytes) → IsUnitOf letters true bytes
unit_shown letters bytes e = messages_shown (length bytes) letters true bytes e

pub unit_made : (letters : Letters) → IsTable letters → (bytes : List ℕ) → IsUnitOf letters true bytes → scan_messages letters bytes ≡ Whole (length bytes)
unit_made letters table bytes (inl alone) = end_made (length bytes) letters true bytes (omega arith) (alone_made letters bytes alone.1)
unit_made letters table bytes (inr sequence) = sequence_made letters table bytes sequence true (length bytes) (omega arith)
