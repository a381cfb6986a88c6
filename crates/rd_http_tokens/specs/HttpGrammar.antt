-- HTTP as a dialect.
use Rattle.std.specs.Prelude.{ℕ, ◌+◌, ◌-◌, ◌==◌, nat_le, nat_lt, ◌||◌, bytes_eq, Bool, true, false, if◌then◌else◌, List, [], ◌++◌, length, take, drop, codes, Option, Some, None, Result, Ok, Err}
use Rattle.rd_base.specs.Token.{Token}
use Rattle.rd_base.specs.History.{Row}
use Rattle.rd_base.specs.declared.values.Scan.{Scan}
use Rattle.rd_base.specs.declared.values.Part.{Part}
use Rattle.rd_base.specs.declared.values.Part.TheVariants.{Request, Reply}
use Rattle.rd_base.specs.declared.values.Note.{Note}
use Rattle.rd_base.specs.declared.values.Cursor.{Cursor}
use Rattle.rd_dialect.specs.Grammar.{Grammar}
use Rattle.rd_body_tokens.specs.declared.place.BodyKind.{BodyKind}
use Rattle.rd_body_tokens.specs.declared.place.BodyKind.TheVariants.{Words, Json, Form, Raw}
use Rattle.rd_body_tokens.specs.declared.place.Place.{Place}
use Rattle.rd_body_tokens.specs.Tiles.{nothing_beside}
use Rattle.rd_body_tokens.specs.declared.place.Place.TheVariants.{Fresh, Running, Opened, Inside, Escaped, Block}
use Rattle.rd_http_frame.specs.declared.unit.FinalHead.{FinalHead}
use Rattle.rd_http_frame.specs.Fronts.{after_front}
use Rattle.rd_http_scan.specs.Scans.{unit_scan, flat_form, final_head}
use Rattle.rd_http_scan.specs.Ends.{body_end}
use Rattle.rd_base.specs.declared.names.NameRules.{NameRules}
use Rattle.rd_http_tokens.specs.declared.stage.Standing.{Standing}
use Rattle.rd_http_tokens.specs.declared.stage.Standing.TheVariants.{Plain, Fixed, Absent}
use Rattle.rd_http_tokens.specs.declared.stage.Stated.{Stated}
use Rattle.rd_http_tokens.specs.declared.stage.Stage.{Stage}
use Rattle.rd_http_tokens.specs.declared.stage.Stage.TheVariants.{AtStart, AtLine, AtValue, AtBody, AtTrailer, AtTrailerValue}
use Rattle.rd_http_tokens.specs.Tokens.{value_words, has_line, behind_line, lines, trailer_tokens, head_tokens, body_tokens, up_to_space}

-- ---- what a cursor stands at

-- the numbers 0 to 4: nothing, or a kind
abbrev pub kind_told : ℕ → Option BodyKind
kind_told n = if n == 1 then Some Words else if n == 2 then Some Json else if n == 3 then Some Form else if n == 4 then Some Raw else None

-- in a head, `left` is what its fields have said: 5 more where a coding stands there
abbrev pub stated_of : ℕ → Stated
stated_of n = if nat_lt n 5 then record { kind = kind_told n; coded = false } else record { kind = kind_told (n - 5); coded = true }

-- in a body, `mark` is its kind, and 4 more where a form's value is Firm, 8 more where it is no token
abbrev pub kind_of_mark : ℕ → BodyKind
kind_of_mark n =
    if n == 1 || n == 5 || n == 9 then Json
    else if n == 2 || n == 6 || n == 10 then Form
    else if n == 3 || n == 7 || n == 11 then Raw
    else Words

abbrev pub standing_of_mark : ℕ → Standing
standing_of_mark n = if nat_lt n 4 then Plain else if nat_lt n 8 then Fixed else Absent

-- in a body, `mode` is 8 and more, by the reader's place
abbrev pub place_of_mode : ℕ → ℕ → Place
place_of_mode mode count =
    if mode == 9 then Running
    else if mode == 10 then Opened
    else if mode == 11 then Inside
    else if mode == 12 then Escaped
    else if mode == 13 then Block count
    else Fresh

abbrev pub stage_of : Cursor → Stage
stage_of cursor =
    if cursor.mode == 0 then AtStart
    else if cursor.mode == 2 then AtLine (stated_of cursor.left)
    else if cursor.mode == 3 then AtValue Plain (cursor.mark - cursor.at) (stated_of cursor.left)
    else if cursor.mode == 4 then AtValue Fixed (cursor.mark - cursor.at) (stated_of cursor.left)
    else if cursor.mode == 5 then AtTrailer
    else if cursor.mode == 6 then AtTrailerValue Plain (cursor.mark - cursor.at)
    else if cursor.mode == 7 then AtTrailerValue Fixed (cursor.mark - cursor.at)
    else if cursor.mode == 14 then AtValue Absent (cursor.mark - cursor.at) (stated_of cursor.left)
    else if cursor.mode == 15 then AtTrailerValue Absent (cursor.mark - cursor.at)
    else AtBody (kind_of_mark cursor.mark) (standing_of_mark cursor.mark) (place_of_mode cursor.mode cursor.left)

-- ---- the cursor that stands there

abbrev pub kind_number : BodyKind → ℕ
kind_number Words = 0
kind_number Json = 1
kind_number Form = 2
kind_number Raw = 3

abbrev pub told_number : Option BodyKind → ℕ
told_number None = 0
told_number (Some kind) = kind_number kind + 1

abbrev pub stated_number : Stated → ℕ
stated_number stated = if stated.coded then told_number stated.kind + 5 else told_number stated.kind

abbrev pub standing_number : Standing → ℕ
standing_number Plain = 0
standing_number Fixed = 4
standing_number Absent = 8

abbrev pub place_mode : Place → ℕ
place_mode Fresh = 8
place_mode Running = 9
place_mode Opened = 10
place_mode Inside = 11
place_mode Escaped = 12
place_mode (Block count) = 13

abbrev pub place_left : Place → ℕ
place_left Fresh = 0
place_left Running = 0
place_left Opened = 0
place_left Inside = 0
place_left Escaped = 0
place_left (Block count) = count

abbrev pub value_mode : Standing → ℕ
value_mode Plain = 3
value_mode Fixed = 4
value_mode Absent = 14

abbrev pub trailer_mode : Standing → ℕ
trailer_mode Plain = 6
trailer_mode Fixed = 7
trailer_mode Absent = 15

abbrev pub mode_of : Stage → ℕ
mode_of AtStart = 0
mode_of (AtLine stated) = 2
mode_of (AtValue now count stated) = value_mode now
mode_of (AtBody kind now place) = place_mode place
mode_of AtTrailer = 5
mode_of (AtTrailerValue now count) = trailer_mode now

abbrev pub left_of : Stage → ℕ
left_of AtStart = 0
left_of (AtLine stated) = stated_number stated
left_of (AtValue now count stated) = stated_number stated
left_of (AtBody kind now place) = place_left place
left_of AtTrailer = 0
left_of (AtTrailerValue now count) = 0

abbrev pub mark_of : ℕ → Stage → ℕ
mark_of at AtStart = 0
mark_of at (AtLine stated) = 0
mark_of at (AtValue now count stated) = at + count
mark_of at (AtBody kind now place) = kind_number kind + standing_number now
mark_of at AtTrailer = 0
mark_of at (AtTrailerValue now count) = at + count

abbrev pub cursor_of : ℕ → Stage → Cursor
cursor_of at stage = record { at = at; mode = mode_of stage; left = left_of stage; mark = mark_of at stage; beside = nothing_beside }

-- how many bytes of a value are left
abbrev pub reach : Stage → ℕ
reach AtStart = 0
reach (AtLine stated) = 0
reach (AtValue now count stated) = count
reach (AtBody kind now place) = 0
reach AtTrailer = 0
reach (AtTrailerValue now count) = count

-- ---- the tokens that a cursor has before it

-- the head and the body
abbrev pub front : Bool → List ℕ → List ℕ
front whole flat = take (body_end whole flat) flat

-- the flat form without the trailer's length
abbrev pub unnumbered : Bool → List ℕ → List ℕ
unnumbered true flat = take (length flat - 4) flat
unnumbered false flat = []

-- the trailer, which a part's flat form doesn't have
abbrev pub trailer_in : Bool → List ℕ → List ℕ
trailer_in true flat = drop (body_end true flat) (unnumbered true flat)
trailer_in false flat = []

abbrev pub trailer_left : NameRules → Bool → List ℕ → List Token
trailer_left names whole flat = trailer_tokens names (trailer_in whole flat)

-- what `more` makes of what follows a line
abbrev pub line_left : List ℕ → (List ℕ → List Token) → List Token
line_left text more = if has_line text then more (behind_line text) else []

-- the words of a value of so many bytes that are there, and what `more` makes of what follows its line
abbrev pub value_left : Standing → ℕ → List ℕ → (List ℕ → List Token) → List Token
value_left standing count text more =
    if nat_le count (length text) then value_words standing (take count text) ++ line_left (drop count text) more
    else []

-- of a trailer, from one of its stages on
abbrev pub trailer_at : NameRules → Stage → List ℕ → List Token
trailer_at names AtStart text = trailer_tokens names text
trailer_at names (AtLine stated) text = trailer_tokens names text
trailer_at names (AtValue now count stated) text = trailer_tokens names text
trailer_at names (AtBody kind now place) text = trailer_tokens names text
trailer_at names AtTrailer text = trailer_tokens names text
trailer_at names (AtTrailerValue now count) text = value_left now count text (trailer_tokens names)

-- of the head and the body, from a stage on
abbrev pub head_left : NameRules → Part → Stage → Bool → List ℕ → List Token
head_left names part AtStart whole text = head_tokens names part whole text
head_left names part (AtLine stated) whole text = lines names stated whole text
head_left names part (AtValue now count stated) whole text = value_left now count text (lines names stated whole)
head_left names part (AtBody kind now place) whole text = body_tokens names kind now whole place text
head_left names part AtTrailer whole text = []
head_left names part (AtTrailerValue now count) whole text = []

-- where the trailer's bytes that are left begin
abbrev pub trailer_start : List ℕ → ℕ → Stage → ℕ
trailer_start flat at AtStart = body_end true flat
trailer_start flat at (AtLine stated) = body_end true flat
trailer_start flat at (AtValue now count stated) = body_end true flat
trailer_start flat at (AtBody kind now place) = body_end true flat
trailer_start flat at AtTrailer = at
trailer_start flat at (AtTrailerValue now count) = at

abbrev pub stage_left : NameRules → Part → Bool → List ℕ → ℕ → Stage → List Token
stage_left names part whole flat at AtStart = head_left names part AtStart whole (drop at (front whole flat)) ++ trailer_left names whole flat
stage_left names part whole flat at (AtLine stated) = head_left names part (AtLine stated) whole (drop at (front whole flat)) ++ trailer_left names whole flat
stage_left names part whole flat at (AtValue now count stated) = head_left names part (AtValue now count stated) whole (drop at (front whole flat)) ++ trailer_left names whole flat
stage_left names part whole flat at (AtBody kind now place) = head_left names part (AtBody kind now place) whole (drop at (front whole flat)) ++ trailer_left names whole flat
stage_left names part whole flat at AtTrailer = trailer_tokens names (drop at (unnumbered whole flat))
stage_left names part whole flat at (AtTrailerValue now count) = value_left now count (drop at (unnumbered whole flat)) (trailer_tokens names)

abbrev pub left_at : NameRules → Part → Bool → List ℕ → Cursor → List Token
left_at names part whole flat cursor = stage_left names part whole flat cursor.at (stage_of cursor)

abbrev pub first : Cursor
first = record { at = 0; mode = 0; left = 0; mark = 0; beside = nothing_beside }

-- ---- the grammar

-- the note of a HEAD
abbrev pub is_head : Note → Bool
is_head note = note.0 == 2

abbrev pub shown_at : Result FinalHead Scan → ℕ
shown_at (Ok head) = head.from
shown_at (Err scan) = 0

abbrev pub note_number : List ℕ → ℕ
note_number unit = if bytes_eq (up_to_space (after_front unit)) (codes "HEAD") then 2 else 1

abbrev pub flat_of : Part → Note → List ℕ → Bool → List ℕ
flat_of part note bytes whole = flat_form part (is_head note) bytes whole

abbrev pub http : NameRules → Bool → (List ℕ → List (List ℕ)) → (ℕ → List Row → List ℕ → List ℕ) → Grammar
http names learns asked to_copy =
    record {
      first_phase = record { 0 = 0 };
      scan_request = λ phase bytes. unit_scan Request false false bytes;
      scan_reply = λ phase note bytes ended. unit_scan Reply (is_head note) ended bytes;
      note_of = λ phase unit. record { 0 = note_number unit };
      phase_after = λ phase note reply. record { 0 = 0 };
      is_farewell = λ note. false;
      early_replies = false;
      learns_rows = learns;
      shown_from = λ phase note reply. shown_at (final_head Reply reply);
      flat = λ part phase note bytes whole. flat_of part note bytes whole;
      tokens = λ part phase note unit. left_at names part true (flat_of part note unit true) first;
      closed = λ part phase note bytes. left_at names part false (flat_of part note bytes false) first;
      first_cursor = first;
      left = λ part phase note flat whole cursor. left_at names part whole flat cursor;
      asked = λ phase note unit. asked unit;
      to_copy = λ phase note copy own told unit. to_copy copy (own ++ told) unit;
    }
