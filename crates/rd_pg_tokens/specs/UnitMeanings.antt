-- A walk over frames gives the tokens of the unit.
use Rattle.std.proofs.Common.{◌≡◌, ℕ, zero, suc, ◌-◌, ◌≤◌, Bool, true, false, cond, not, eqb, ltb, List, [], ◌∷◌, ◌++◌, length, take, drop, Option, Some, None, refl, ap, ◌∙◌, arith}
use Rattle.std.specs.Prelude.{slice_range, ◌||◌}
use Rattle.std.proofs.lemmas.Bool.{eqb-true}
use Rattle.rd_base.specs.Token.{Token, token}
use Rattle.rd_base.specs.declared.names.NameRules.{NameRules}
use Rattle.rd_base.specs.declared.values.TokenKind.TheVariants.{Firm}
use Rattle.rd_pg_frame.specs.declared.message.Message.{Message}
use Rattle.rd_pg_frame.specs.Messages.{be_u16_at, be_u32_at, message_at}
use Rattle.rd_pg_tokens.specs.declared.kind.Kind.{Kind}
use Rattle.rd_pg_tokens.specs.declared.kind.Kind.TheVariants.{Packet, Answer, Front, Back}
use Rattle.rd_pg_tokens.specs.declared.frame.Frame.{Frame}
use Rattle.rd_pg_tokens.specs.declared.stage.Stage.{Stage}
use Rattle.rd_pg_tokens.specs.declared.stage.Stage.TheVariants.{Raw, AuthenticationCode, ParameterName, Status, ColumnCount, ValueCount, Tag, FieldCode, Text, StatementName, Portal, Password, PacketCode}
use Rattle.rd_pg_tokens.specs.Frames.{front_frame, back_frame, front_stage, back_stage, framed}
use Rattle.rd_pg_tokens.specs.Pieces.{Columns, no_columns, described}
use Rattle.rd_pg_tokens.specs.Walks.{content, is_description, content_of, columns_after, read_of, letter_before, frame_before, walk_up_to, unit_tokens}
use Rattle.rd_pg_tokens.specs.Tokens.{raw, authentication, parameter_status, ready_for_query, command_complete, row_description, column_names, data_row, fields, query, parse, bind, startup, password}
use Rattle.rd_pg_tokens.specs.ColumnLaws.{Alike, to_alike, messages_alike, read_alike}
use Rattle.rd_pg_tokens.specs.Meanings.{meaning, names_of, content_means}
use Rattle.rd_pg_tokens.specs.Units.{content_in, message_then, back_content, back_message, described_names, names_after, back_messages, front_content, front_message, front_messages, packets, answers, tokens_of_unit}

meaning_if : (rules : NameRules) (names : List (List ℕ)) (bytes : List ℕ) (t : Bool) (a b : Stage) → meaning rules (cond t a b) names bytes ≡ cond t (meaning rules a names bytes) (meaning rules b names bytes)
meaning_if rules names bytes true a b = refl
meaning_if rules names bytes false a b = refl

-- ---- a backend's messages

back_means : (rules : NameRules) (names : List (List ℕ)) (letter : ℕ) (bytes : List ℕ) → meaning rules (back_stage letter) names bytes ≡ back_content rules names letter bytes
back_means rules names letter bytes = by (eqb letter 82) (eqb letter 83) (eqb letter 90) (eqb letter 84) (eqb letter 68) (eqb letter 67) (eqb letter 69 || eqb letter 78)
  where
    by : (a b c d e f g : Bool)
        → meaning rules (cond a AuthenticationCode (cond b ParameterName (cond c Status (cond d ColumnCount (cond e ValueCount (cond f Tag (cond g FieldCode Raw))))))) names bytes
        ≡ cond a (authentication bytes) (cond b (parameter_status rules bytes) (cond c (ready_for_query bytes) (cond d (row_description bytes) (cond e (data_row rules names bytes) (cond f (command_complete bytes) (cond g (fields bytes) (raw bytes)))))))
    by true b c d e f g = refl
    by false true c d e f g = refl
    by false false true d e f g = refl
    by false false false true e f g = refl
    by false false false false true f g = refl
    by false false false false false true g = refl
    by false false false false false false true = refl
    by false false false false false false false = refl

back_described : (letter : ℕ) → is_description (back_stage letter) ≡ eqb letter 84
back_described letter = by (eqb letter 84) refl
  where
    other : (a b c e f g : Bool) → is_description (cond a AuthenticationCode (cond b ParameterName (cond c Status (cond false ColumnCount (cond e ValueCount (cond f Tag (cond g FieldCode Raw))))))) ≡ false
    other true b c e f g = refl
    other false true c e f g = refl
    other false false true e f g = refl
    other false false false true f g = refl
    other false false false false true g = refl
    other false false false false false true = refl
    other false false false false false false = refl

    by : (t : Bool) → eqb letter 84 ≡ t → is_description (back_stage letter) ≡ t
    by true e = ap (λ l. is_description (back_stage l)) (eqb-true letter 84 e)
    by false e =
        ap (λ d. is_description (cond (eqb letter 82) AuthenticationCode (cond (eqb letter 83) ParameterName (cond (eqb letter 90) Status (cond d ColumnCount (cond (eqb letter 68) ValueCount (cond (eqb letter 67) Tag (cond (eqb letter 69 || eqb letter 78) FieldCode Raw)))))))) e
        ∙ other (eqb letter 82) (eqb letter 83) (eqb letter 90) (eqb letter 68) (eqb letter 67) (eqb letter 69 || eqb letter 78)

described_are : (bytes : List ℕ) → names_of (described bytes) ≡ described_names bytes
described_are bytes = by (ltb (length bytes) 2)
  where
    by : (t : Bool) → names_of (cond t no_columns (record { left = be_u16_at bytes 0; names = drop 2 bytes })) ≡ cond t [] (column_names (be_u16_at bytes 0) (drop 2 bytes))
    by true = refl
    by false = refl

-- nothing stands in an empty range
no_content : (rules : NameRules) (stage : Stage) (cs : Columns) (bytes : List ℕ) (at : ℕ) → content rules stage cs (slice_range bytes at at) ≡ []
no_content rules stage cs bytes at = let none : at - at ≡ 0 = omega arith in ap (λ n. content rules stage cs (take n (drop at bytes))) none

back_step : (rules : NameRules) (cs : Columns) (bytes : List ℕ) (m : Message) (rest : List Token)
    → letter_before (not (eqb m.letter 75)) bytes (content rules (back_stage m.letter) cs (content_of (back_frame m) bytes) ++ rest) ≡ back_message rules (names_of cs) bytes m ++ rest
back_step rules cs bytes m rest = by (eqb m.letter 75)
  where
    by : (t : Bool) → letter_before (not t) bytes (content rules (back_stage m.letter) cs (slice_range bytes (cond t m.to m.from) m.to) ++ rest) ≡ cond t [] (token Firm (take 1 bytes) ∷ back_content rules (names_of cs) m.letter (content_in bytes m)) ++ rest
    by true = ap (λ ts. ts ++ rest) (no_content rules (back_stage m.letter) cs bytes m.to)
    by false = ap (λ (ts : List Token). token Firm (take 1 bytes) ∷ (ts ++ rest)) (content_means rules (back_stage m.letter) cs (content_in bytes m) ∙ back_means rules (names_of cs) m.letter (content_in bytes m))

-- of each value the columns behind a message say what the names behind it say
back_names : (rules : NameRules) (cs : Columns) (bytes : List ℕ) (m : Message) → Alike rules (names_of (columns_after rules cs (back_frame m) bytes)) (names_after (names_of cs) bytes m)
back_names rules cs bytes m = by (eqb m.letter 84) refl
  where
    from : ℕ
    from = cond (eqb m.letter 75) m.to m.from

    here : List ℕ
    here = slice_range bytes from m.to

    by : (t : Bool) → eqb m.letter 84 ≡ t → Alike rules (names_of (cond (is_description (back_stage m.letter)) (described (read_of rules here)) cs)) (cond t (described_names (content_in bytes m)) (names_of cs))
    by true e =
        let letter = eqb-true m.letter 84 e in
        let same =
        ap (λ t. names_of (cond t (described (read_of rules here)) cs)) (back_described m.letter ∙ e)
        ∙ ap (λ l. names_of (described (read_of rules (slice_range bytes (cond (eqb l 75) m.to m.from) m.to)))) letter
        ∙ described_are (read_of rules (content_in bytes m)) in
        to_alike rules (names_of (cond (is_description (back_stage m.letter)) (described (read_of rules here)) cs)) (described_names (read_of rules (content_in bytes m))) (described_names (content_in bytes m)) same (read_alike rules (content_in bytes m))
    by false e = to_alike rules (names_of (cond (is_description (back_stage m.letter)) (described (read_of rules here)) cs)) (names_of cs) (names_of cs) (ap (λ t. names_of (cond t (described (read_of rules here)) cs)) (back_described m.letter ∙ e)) (λ i. refl)

back_walk : (n : ℕ) (rules : NameRules) (cs : Columns) (bytes : List ℕ) → walk_up_to n rules Back cs bytes ≡ back_messages n rules (names_of cs) bytes
back_walk zero rules cs bytes = refl
back_walk (suc n) rules cs bytes = by (λ later rest. back_walk n rules later rest) (message_at bytes 0)
  where
    by : ((later : Columns) (rest : List ℕ) → walk_up_to n rules Back later rest ≡ back_messages n rules (names_of later) rest)
        → (r : Option Message)
        → frame_before (framed back_frame r) (λ f. letter_before f.has_letter bytes (content rules f.stage cs (content_of f bytes) ++ walk_up_to n rules Back (columns_after rules cs f bytes) (drop f.to bytes)))
        ≡ message_then r (λ m. back_message rules (names_of cs) bytes m ++ back_messages n rules (names_after (names_of cs) bytes m) (drop m.to bytes))
    by ih None = refl
    by ih (Some m) =
        let rest = drop m.to bytes in
        back_step rules cs bytes m (walk_up_to n rules Back (columns_after rules cs (back_frame m) bytes) rest)
        ∙ ap (λ ts. back_message rules (names_of cs) bytes m ++ ts) (ih (columns_after rules cs (back_frame m) bytes) rest ∙ messages_alike n rules (names_of (columns_after rules cs (back_frame m) bytes)) (names_after (names_of cs) bytes m) (back_names rules cs bytes m) rest)

-- ---- a client's messages

front_means : (rules : NameRules) (names : List (List ℕ)) (bytes : List ℕ) (m : Message)
    → meaning rules (front_stage m.letter) [] (slice_range bytes (cond (eqb m.letter 112) 1 m.from) m.to) ≡ cond (eqb m.letter 112) (password (slice_range bytes 1 m.to)) (front_content rules m.letter (content_in bytes m))
front_means rules names bytes m = by (eqb m.letter 112) refl
  where
    chain : (a b c : Bool) (content : List ℕ) → meaning rules (cond a Text (cond b StatementName (cond c Portal (cond false Password Raw)))) [] content ≡ cond a (query content) (cond b (parse content) (cond c (bind rules [] content) (raw content)))
    chain true b c content = refl
    chain false true c content = refl
    chain false false true content = refl
    chain false false false content = refl

    by : (t : Bool) → eqb m.letter 112 ≡ t → meaning rules (front_stage m.letter) [] (slice_range bytes (cond t 1 m.from) m.to) ≡ cond t (password (slice_range bytes 1 m.to)) (front_content rules m.letter (content_in bytes m))
    by true e = ap (λ l. meaning rules (front_stage l) [] (slice_range bytes 1 m.to)) (eqb-true m.letter 112 e)
    by false e =
        ap (λ d. meaning rules (cond (eqb m.letter 81) Text (cond (eqb m.letter 80) StatementName (cond (eqb m.letter 66) Portal (cond d Password Raw)))) [] (content_in bytes m)) e
        ∙ chain (eqb m.letter 81) (eqb m.letter 80) (eqb m.letter 66) (content_in bytes m)

front_undescribed : (letter : ℕ) → is_description (front_stage letter) ≡ false
front_undescribed letter = by (eqb letter 81) (eqb letter 80) (eqb letter 66) (eqb letter 112)
  where
    by : (a b c d : Bool) → is_description (cond a Text (cond b StatementName (cond c Portal (cond d Password Raw)))) ≡ false
    by true b c d = refl
    by false true c d = refl
    by false false true d = refl
    by false false false true = refl
    by false false false false = refl

front_walk : (n : ℕ) (rules : NameRules) (bytes : List ℕ) → walk_up_to n rules Front no_columns bytes ≡ front_messages n rules bytes
front_walk zero rules bytes = refl
front_walk (suc n) rules bytes = by (λ rest. front_walk n rules rest) (message_at bytes 0)
  where
    by : ((rest : List ℕ) → walk_up_to n rules Front no_columns rest ≡ front_messages n rules rest)
        → (r : Option Message)
        → frame_before (framed front_frame r) (λ f. letter_before f.has_letter bytes (content rules f.stage no_columns (content_of f bytes) ++ walk_up_to n rules Front (columns_after rules no_columns f bytes) (drop f.to bytes)))
        ≡ message_then r (λ m. front_message rules bytes m ++ front_messages n rules (drop m.to bytes))
    by ih None = refl
    by ih (Some m) =
        let rest = drop m.to bytes in
        let here = content_of (front_frame m) bytes in
        ap (λ (ts : List Token). token Firm (take 1 bytes) ∷ (ts ++ walk_up_to n rules Front (columns_after rules no_columns (front_frame m) bytes) rest)) (content_means rules (front_stage m.letter) no_columns here ∙ front_means rules [] bytes m)
        ∙ ap (λ t. front_message rules bytes m ++ walk_up_to n rules Front (cond t (described (read_of rules here)) no_columns) rest) (front_undescribed m.letter)
        ∙ ap (λ ts. front_message rules bytes m ++ ts) (ih rest)

-- ---- packets and answers

packet_walk : (n : ℕ) (rules : NameRules) (bytes : List ℕ) → walk_up_to n rules Packet no_columns bytes ≡ packets n bytes
packet_walk zero rules bytes = refl
packet_walk (suc n) rules bytes = by (λ rest. packet_walk n rules rest) (ltb (length bytes) 8) (ltb len 8 || ltb (length bytes) len)
  where
    len : ℕ
    len = be_u32_at bytes 0

    f : Frame
    f = record { has_letter = false; from = 4; to = len; stage = PacketCode }

    by : ((rest : List ℕ) → walk_up_to n rules Packet no_columns rest ≡ packets n rest) → (t u : Bool)
        → frame_before (cond t None (cond u None (Some f))) (λ f. letter_before f.has_letter bytes (content rules f.stage no_columns (content_of f bytes) ++ walk_up_to n rules Packet (columns_after rules no_columns f bytes) (drop f.to bytes)))
        ≡ cond t [] (cond u [] (startup (slice_range bytes 4 len) ++ packets n (drop len bytes)))
    by ih true u = refl
    by ih false true = refl
    by ih false false =
        ap (λ ts. ts ++ walk_up_to n rules Packet no_columns (drop len bytes)) (content_means rules PacketCode no_columns (slice_range bytes 4 len))
        ∙ ap (λ ts. startup (slice_range bytes 4 len) ++ ts) (ih (drop len bytes))

answer_walk : (n : ℕ) (rules : NameRules) (bytes : List ℕ) → length bytes ≤ n → walk_up_to n rules Answer no_columns bytes ≡ answers bytes
answer_walk zero rules [] le = refl
answer_walk zero rules (b ∷ bytes) le = absurd (omega (arith, le))
answer_walk (suc n) rules [] le = refl
answer_walk (suc n) rules (b ∷ bytes) le = ap (λ (ts : List Token). token Firm (b ∷ []) ∷ ts) (answer_walk n rules bytes (omega (arith, le)))

-- ---- units

pub unit_means : (rules : NameRules) (kind : Kind) (bytes : List ℕ) → unit_tokens rules kind bytes ≡ tokens_of_unit rules kind bytes
unit_means rules Packet bytes = packet_walk (length bytes) rules bytes
unit_means rules Answer bytes = answer_walk (length bytes) rules bytes (omega arith)
unit_means rules Front bytes = front_walk (length bytes) rules bytes
unit_means rules Back bytes = back_walk (length bytes) rules no_columns bytes
