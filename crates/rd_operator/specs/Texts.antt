-- The texts of the operator's replies.
use Rattle.std.specs.Prelude.{ℕ, ◌==◌, List, [], ◌∷◌, ◌++◌, codes, decimal, length, map, unwrap_or, if◌then◌else◌}
use Rattle.serde_json.specs.Data.{Data, number, unsigned, object, array, Items, item, no_items, Members, member, no_members, put}
use Rattle.serde_json.specs.Written.{compact_text}
use Rattle.http.specs.StatusCode.{reason_phrase}
use Rattle.rd_base.specs.declared.session_note.SessionNote.{SessionNote}
use Rattle.rd_board.specs.Board.{BoardView}

-- ---- bodies, as JSON

abbrev pub field : List ℕ → ℕ → Members → Members
field name n rest = member name (number (unsigned n)) rest

abbrev pub error_data : ℕ → Data
error_data status = object (field (codes "error") status no_members)

abbrev pub live_data : ℕ → Data
live_data live = object (field (codes "live") live no_members)

abbrev pub totals_data : BoardView → Data
totals_data board =
    object (field (codes "exchanges") board.exchanges (field (codes "masked") board.masked
    (field (codes "sessions") board.sessions (field (codes "unkept") board.unkept no_members))))

-- a number is put among an object's members, which stand by the bytes of their names
abbrev pub with_number : List ℕ → ℕ → Members → Members
with_number name n members = put name (number (unsigned n)) members

-- what is put of a note, in two parts
abbrev pub with_first : SessionNote → Members → Members
with_first n members =
    with_number (codes "events") n.events (with_number (codes "ended") n.ended
    (with_number (codes "dropped") n.dropped (with_number (codes "dialect") n.dialect
    (with_number (codes "detail") n.detail (with_number (codes "code") n.code
    (with_number (codes "began") n.began members))))))

abbrev pub with_others : SessionNote → Members → Members
with_others n members =
    with_number (codes "side") n.side (with_number (codes "place") n.place
    (with_number (codes "masked") n.masked (with_number (codes "link") n.link
    (with_number (codes "id") n.id (with_number (codes "exchanges") n.exchanges
    (with_number (codes "exchange") n.exchange members))))))

-- a note as an object of numbers
abbrev pub note_data : SessionNote → Data
note_data n =
    object (field (codes "began") n.began (field (codes "code") n.code (field (codes "detail") n.detail
    (field (codes "dialect") n.dialect (field (codes "dropped") n.dropped (field (codes "ended") n.ended
    (field (codes "events") n.events (field (codes "exchange") n.exchange (field (codes "exchanges") n.exchanges
    (field (codes "id") n.id (field (codes "link") n.link (field (codes "masked") n.masked
    (field (codes "place") n.place (field (codes "side") n.side no_members))))))))))))))

abbrev pub items_from : List Data → Items
items_from [] = no_items
items_from (d ∷ ds) = item d (items_from ds)

abbrev pub notes_data : List SessionNote → Data
notes_data notes = object (member (codes "sessions") (array (items_from (map note_data notes))) no_members)

-- ---- replies

-- a status, and a body's text
pub record ReplyView : Type 0 where
  pub status : ℕ
  pub body : List ℕ

abbrev pub reply_with : ℕ → Data → ReplyView
reply_with status d = record { status = status; body = compact_text d }

-- a reply of 200
abbrev pub fine : Data → ReplyView
fine d = reply_with 200 d

-- any other
abbrev pub refusal : ℕ → ReplyView
refusal status = reply_with status (error_data status)

-- a status has the phrase that HTTP has for it
abbrev pub status_line : ℕ → List ℕ
status_line status = codes "HTTP/1.1 " ++ decimal status ++ codes " " ++ unwrap_or (reason_phrase status) [] ++ codes "\r\n"

abbrev pub length_line : ℕ → List ℕ
length_line size = codes "Content-Length: " ++ decimal size ++ codes "\r\n"

-- at 405 alone
abbrev pub allow_line : ℕ → List ℕ
allow_line status = if status == 405 then codes "Allow: GET\r\n" else []

abbrev pub text_with : ℕ → List ℕ → List ℕ
text_with status body =
    status_line status ++ codes "Content-Type: application/json\r\n" ++ length_line (length body)
    ++ allow_line status ++ codes "Connection: close\r\n\r\n" ++ body

-- the reply, byte for byte
unfoldable pub reply_text : ReplyView → List ℕ
reply_text r = text_with r.status r.body
