-- The tokens of an HTTP flat form: those of the head's lines, the head mark, those of the body, and of a whole one
-- those of the trailer's lines.
use Rattle.std.specs.Prelude.{ℕ, zero, suc, ◌+◌, ◌-◌, ◌==◌, ◌&&◌, ◌||◌, not, nat_le, nat_lt, bytes_eq, Bool, true, false, if◌then◌else◌, List, [], ◌∷◌, ◌++◌, length, take, drop, codes, Some, None, unwrap_or}
use Rattle.std.specs.List.{position_or_len, list_any}
use Rattle.std.specs.Str.{str_eq_ignore_ascii_case}
use Rattle.httparse.specs.Grammar.{trim_ows}
use Rattle.rd_base.specs.Token.{Token, token}
use Rattle.rd_base.specs.WordCut.{cut_words}
use Rattle.rd_base.specs.declared.values.TokenKind.{TokenKind}
use Rattle.rd_base.specs.declared.values.TokenKind.TheVariants.{Soft, Firm, Name}
use Rattle.rd_base.specs.declared.values.Part.{Part}
use Rattle.rd_base.specs.declared.values.Part.TheVariants.{Request, Reply}
use Rattle.rd_body_tokens.specs.declared.place.BodyKind.{BodyKind}
use Rattle.rd_body_tokens.specs.declared.place.BodyKind.TheVariants.{Words, Json, Form, Raw}
use Rattle.rd_body_tokens.specs.declared.place.Place.{Place}
use Rattle.rd_body_tokens.specs.declared.place.Place.TheVariants.{Fresh}
use Rattle.rd_body_tokens.specs.Tiles.{tiles}
use Rattle.rd_http_frame.specs.Fronts.{after_front}
use Rattle.rd_base.specs.declared.names.NameRules.{NameRules}
use Rattle.rd_http_tokens.specs.declared.stage.Standing.{Standing}
use Rattle.rd_http_tokens.specs.declared.stage.Standing.TheVariants.{Plain, Fixed, Absent}
use Rattle.rd_http_tokens.specs.declared.stage.Stated.{Stated}

-- ---- named values

abbrev pub is_among : List (List ℕ) → List ℕ → Bool
is_among names name = list_any (λ n. str_eq_ignore_ascii_case n name) names

-- the same name, in any case of letters
abbrev pub is_type : List ℕ → List ℕ → Bool
is_type name text = str_eq_ignore_ascii_case text name

-- when and by whom an answer was made: RFC 9110, sections 6.6.1 and 10.2.4
abbrev pub is_of_origin : List ℕ → Bool
is_of_origin name = is_type (codes "date") name || is_type (codes "server") name

-- of the connection alone: RFC 9110, section 7.6.1
abbrev pub is_of_connection : List ℕ → Bool
is_of_connection name = is_type (codes "connection") name || is_type (codes "keep-alive") name

-- how the body is framed: RFC 9112, sections 6.1 and 6.2
abbrev pub is_of_framing : List ℕ → Bool
is_of_framing name = is_type (codes "content-length") name || is_type (codes "transfer-encoding") name

-- a field that gives no token: one of six that are never compared, or one that the rules name
unfoldable pub is_passed : NameRules → List ℕ → Bool
is_passed names name = is_of_origin name || is_of_connection name || is_of_framing name || is_among names.pass name

-- how a value stands under its name
abbrev pub standing : NameRules → List ℕ → Standing
standing names name = if is_among names.free name then Absent else (if is_among names.firm name then Fixed else Plain)

abbrev pub made_firm : List Token → List Token
made_firm [] = []
made_firm (t ∷ ts) = token Firm t.text ∷ made_firm ts

abbrev pub value_words : Standing → List ℕ → List Token
value_words Plain value = cut_words value
value_words Fixed value = made_firm (cut_words value)
value_words Absent value = []

-- ---- lines

abbrev pub line_len : List ℕ → ℕ
line_len text = position_or_len (λ b. b == 10) text

-- a line feed is there
abbrev pub has_line : List ℕ → Bool
has_line text = nat_lt (line_len text) (length text)

abbrev pub line_of : List ℕ → List ℕ
line_of text = take (line_len text) text

abbrev pub behind_line : List ℕ → List ℕ
behind_line text = drop (line_len text + 1) text

-- nothing, or a CR
abbrev pub is_blank : List ℕ → Bool
is_blank [] = true
is_blank (b ∷ []) = b == 13
is_blank (b ∷ c ∷ line) = false

abbrev pub without_cr : List ℕ → List ℕ
without_cr [] = []
without_cr (b ∷ []) = if b == 13 then [] else b ∷ []
without_cr (b ∷ c ∷ line) = b ∷ without_cr (c ∷ line)

abbrev pub name_len : List ℕ → ℕ
name_len line = position_or_len (λ b. b == 58) line

abbrev pub name_of : List ℕ → List ℕ
name_of line = take (name_len line) line

-- what stands behind a line's `:`
abbrev pub raw_of : List ℕ → List ℕ
raw_of line = without_cr (drop (name_len line + 1) line)

abbrev pub value_of : List ℕ → List ℕ
value_of line = trim_ows (raw_of line)

-- the tokens of a field's line
abbrev pub field_tokens : NameRules → List ℕ → List Token
field_tokens names line =
    if is_passed names (name_of line) then []
    else token Name (name_of line) ∷ value_words (standing names (name_of line)) (value_of line)

-- ---- what the fields say of the body's kind

abbrev pub unstated : Stated
unstated = record { kind = None; coded = false }

abbrev pub body_kind : Stated → BodyKind
body_kind stated = if stated.coded then Raw else unwrap_or stated.kind Raw

abbrev pub ends_with : List ℕ → List ℕ → Bool
ends_with end text = nat_le (length end) (length text) && is_type end (drop (length text - length end) text)

abbrev pub begins_with : List ℕ → List ℕ → Bool
begins_with front text = nat_le (length front) (length text) && is_type front (take (length front) text)

-- a media type, in any case of letters
abbrev pub kind_of_type : List ℕ → BodyKind
kind_of_type text =
    if is_type (codes "application/json") text then Json
    else if ends_with (codes "+json") text then Json
    else if is_type (codes "application/x-www-form-urlencoded") text then Form
    else if begins_with (codes "text/") text then Words
    else if is_type (codes "application/xml") text then Words
    else if is_type (codes "application/javascript") text then Words
    else if ends_with (codes "+xml") text then Words
    else Raw

-- a value up to its first `;`, without the white space around it
abbrev pub media_type : List ℕ → List ℕ
media_type value = trim_ows (take (position_or_len (λ b. b == 59) value) value)

abbrev pub state : Stated → List ℕ → Stated
state before line =
    if str_eq_ignore_ascii_case (name_of line) (codes "content-type") then record { kind = Some (unwrap_or before.kind (kind_of_type (media_type (value_of line)))); coded = before.coded }
    else if str_eq_ignore_ascii_case (name_of line) (codes "content-encoding") && not (bytes_eq (value_of line) (codes "identity")) then record { kind = before.kind; coded = true }
    else before

-- ---- bodies

-- how the value behind this token of a form stands: a key tells it, `&` ends it
abbrev pub standing_behind : NameRules → Standing → Token → Standing
standing_behind names now t = if bytes_eq t.text (38 ∷ []) then Plain else (if bytes_eq t.text (61 ∷ []) then now else standing names t.text)

abbrev pub value_token : Standing → Token → List Token
value_token Plain t = t ∷ []
value_token Fixed t = token Firm t.text ∷ []
value_token Absent t = []

-- a form's tokens with its values as they stand: values alone are Soft
abbrev pub named_by : NameRules → Standing → TokenKind → Token → List Token
named_by names now Soft t = value_token now t
named_by names now Firm t = t ∷ []
named_by names now Name t = t ∷ []

abbrev pub standing_by : NameRules → Standing → TokenKind → Token → Standing
standing_by names now Soft t = now
standing_by names now Firm t = standing_behind names now t
standing_by names now Name t = now

abbrev pub named : NameRules → Standing → List Token → List Token
named names now [] = []
named names now (t ∷ ts) = named_by names now t.kind t ++ named names (standing_by names now t.kind t) ts

-- the tokens of a body from a place on
abbrev pub body_tokens : NameRules → BodyKind → Standing → Bool → Place → List ℕ → List Token
body_tokens names Words now whole place body = tiles Words whole place body
body_tokens names Json now whole place body = tiles Json whole place body
body_tokens names Form now whole place body = named names now (tiles Form whole place body)
body_tokens names Raw now whole place body = tiles Raw whole place body

-- ---- heads and trailers

-- the lines of a head up to its empty line, the head mark, and the body
abbrev pub lines_by : ℕ → NameRules → Stated → Bool → List ℕ → List Token
lines_by zero names stated whole text = []
lines_by (suc most) names stated whole text =
    if has_line text then (if is_blank (line_of text) then token Firm [] ∷ body_tokens names (body_kind stated) Plain whole Fresh (behind_line text)
    else field_tokens names (line_of text) ++ lines_by most names (state stated (line_of text)) whole (behind_line text))
    else []

abbrev pub lines : NameRules → Stated → Bool → List ℕ → List Token
lines names stated whole text = lines_by (length text) names stated whole text

-- the lines of a trailer up to its empty line
abbrev pub trailer_by : ℕ → NameRules → List ℕ → List Token
trailer_by zero names text = []
trailer_by (suc most) names text =
    if has_line text then (if is_blank (line_of text) then [] else field_tokens names (line_of text) ++ trailer_by most names (behind_line text))
    else []

abbrev pub trailer_tokens : NameRules → List ℕ → List Token
trailer_tokens names text = trailer_by (length text) names text

abbrev pub up_to_space : List ℕ → List ℕ
up_to_space line = take (position_or_len (λ b. b == 32) line) line

abbrev pub behind_space : List ℕ → List ℕ
behind_space line = drop (position_or_len (λ b. b == 32) line + 1) line

-- a request's method and target, a reply's three digits
abbrev pub start_tokens : Part → List ℕ → List Token
start_tokens Request line = token Firm (up_to_space line) ∷ cut_words (up_to_space (behind_space line))
start_tokens Reply line = token Firm (take 3 (drop 9 line)) ∷ []

-- from the start line on
abbrev pub start_left : NameRules → Part → Bool → List ℕ → List Token
start_left names part whole text = if has_line text then start_tokens part (line_of text) ++ lines names unstated whole (behind_line text) else []

abbrev pub head_tokens : NameRules → Part → Bool → List ℕ → List Token
head_tokens names part whole text = start_left names part whole (after_front text)
