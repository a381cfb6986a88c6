-- Where the parts of a head stand, and what it says of its body.
use Rattle.std.specs.Prelude.{◌≡◌, ℕ, Bool, ◌+◌, ◌-◌, ◌≤◌, List, [], ◌∷◌, ◌++◌, length, drop, map, if◌then◌else◌, ◌==◌, ◌&&◌, ◌||◌, nat_lt, nat_le, All, Option, Some, None}
use Rattle.std.specs.List.{position_or_len, prefix_len, flat_map}
use Rattle.httparse.specs.declared.spans.HeaderSpan.{HeaderSpan}
use Rattle.httparse.specs.Grammar.{Field, IsField, is_ows, print_field, field_value, print_blank, print_version, print_end, print_reason, RequestHead, ReadsRequest, ResponseHead, ReadsResponse, status_code}
use Rattle.httparse.specs.Spans.{name_and_value, header_bytes}
use Rattle.rd_base.specs.declared.values.Part.{Part}
use Rattle.rd_base.specs.declared.values.Part.TheVariants.{Request, Reply}
use Rattle.rd_http_frame.specs.Heads.{seen}
use Rattle.rd_http_frame.specs.Fields.{framing_of}
use Rattle.rd_http_frame.specs.declared.fields.Framing.{Framing}
use Rattle.rd_http_frame.specs.declared.fields.Framing.TheVariants.{Unstated, Length, Chunks}
use Rattle.rd_http_frame.specs.declared.body.BodyRule.{BodyRule}
use Rattle.rd_http_frame.specs.declared.body.BodyRule.TheVariants.{Empty, Chunked, UntilEnd}
use Rattle.rd_http_frame.specs.declared.body.BodyRule.TheVariants.{Length as Sized}
use Rattle.rd_http_frame.specs.declared.place.FieldPlace.{FieldPlace}
use Rattle.rd_http_frame.specs.declared.place.Span.{Span}
use Rattle.rd_http_frame.specs.declared.place.FieldSpan.{FieldSpan}

-- the first place of this byte from here on, or the end
abbrev pub first_at : List ℕ → ℕ → ℕ → ℕ
first_at bytes at stop = at + position_or_len (λ b. b == stop) (drop at bytes)

-- the name of a field whose line begins here ends there, and so does its line
pub record AtField (at : ℕ) (f : Field) (p : FieldPlace) : Type 0 where
  pub name_end : p.name_end ≡ at + length f.name
  pub next : p.next ≡ at + length (print_field f)

-- so many bytes from a place on
abbrev pub span : ℕ → ℕ → Span
span at count = record { start = at; end = at + count }

-- the name, and the value without the white space around it, of a field whose line begins here: RFC 9112, section 5
abbrev pub field_at : ℕ → Field → FieldSpan
field_at at f = record {
  name = span at (length f.name);
  value = span (at + length f.name + 1 + prefix_len is_ows f.raw) (length (field_value f));
}

abbrev pub fields_at : ℕ → List Field → List FieldSpan
fields_at at [] = []
fields_at at (f ∷ fields) = field_at at f ∷ fields_at (at + length (print_field f)) fields

-- lines of these fields begin here, and these headers cover their names and values
pub record AreLinesAt (bytes : List ℕ) (at : ℕ) (headers : List HeaderSpan) (fields : List Field) : Type 0 where
  pub good : All IsField fields
  pub rest : List ℕ
  pub lines : drop at bytes ≡ flat_map print_field fields ++ rest
  pub covered : map (header_bytes bytes) headers ≡ map name_and_value fields

-- the places in a line whose name ends here, and whose value has as many bytes as this header's
abbrev pub span_of : List ℕ → ℕ → ℕ → HeaderSpan → FieldSpan
span_of bytes at name_end header =
    let start = name_end + 1 + prefix_len is_ows (drop (name_end + 1) bytes) in
    record { name = record { start = at; end = name_end }; value = span start (header.value.end - header.value.start) }

-- What the fields say of the body, where nothing is said of it, this
abbrev pub rule_of : BodyRule → Option Framing → BodyRule
rule_of unstated None = unstated
rule_of unstated (Some Unstated) = unstated
rule_of unstated (Some (Length size)) = Sized size
rule_of unstated (Some Chunks) = Chunked

-- RFC 9112, section 6.3: a request that says nothing of a body has none (case 7)
abbrev pub request_rule : RequestHead → BodyRule
request_rule h = rule_of Empty (framing_of h.minor (map name_and_value h.fields))

-- statuses whose replies have no body: RFC 9112, section 6.3, case 1
abbrev pub has_no_body : ℕ → Bool
has_no_body status = (nat_le 100 status && nat_lt status 200) || (status == 204 || status == 304)

-- any other reply that says nothing of its body goes on until its link ends: RFC 9112, section 6.3, case 8
abbrev pub reply_rule : ResponseHead → BodyRule
reply_rule h = if has_no_body (status_code h) then Empty else rule_of UntilEnd (framing_of h.minor (map name_and_value h.fields))

-- what a head is read as
pub record HeadPlaces : Type 0 where
  pub method : Span
  pub target : Span
  pub status : ℕ
  pub spans : List FieldSpan
  pub body : BodyRule

-- the bytes before the first field line
abbrev pub request_start : RequestHead → ℕ
request_start h = length (print_blank h.blank) + (length (h.method ++ 32 ∷ (h.target ++ 32 ∷ print_version h.minor)) + length (print_end h.line_end))

abbrev pub reply_start : ResponseHead → ℕ
reply_start h = length (print_blank h.blank) + (length (print_version h.minor ++ 32 ∷ (h.digits ++ print_reason h.reason)) + length (print_end h.line_end))

-- a request's method, target and fields, where they stand; its status is 0
abbrev pub request_places : RequestHead → HeadPlaces
request_places h = record {
  method = span (length (print_blank h.blank)) (length h.method);
  target = span (length (print_blank h.blank) + length h.method + 1) (length h.target);
  status = 0;
  spans = fields_at (request_start h) h.fields;
  body = request_rule h;
}

-- a reply's fields, where they stand; its method and target are empty
abbrev pub reply_places : ResponseHead → HeadPlaces
reply_places h = record {
  method = span 0 0;
  target = span 0 0;
  status = status_code h;
  spans = fields_at (reply_start h) h.fields;
  body = reply_rule h;
}

-- the places are those of the head that these bytes begin with
abbrev pub IsHead : Part → List ℕ → HeadPlaces → Type 0
IsHead Request bytes head = (h : RequestHead) × (rest : List ℕ) × ReadsRequest (seen bytes) h rest × (head ≡ request_places h)
IsHead Reply bytes head = (h : ResponseHead) × (rest : List ℕ) × ReadsResponse (seen bytes) h rest × (head ≡ reply_places h)

-- the places of a head at the front, and none where there is none of at most 100 fields
abbrev pub IsRequestRead : List ℕ → Option HeadPlaces → Type 0
IsRequestRead bytes (Some head) = (h : RequestHead) × (rest : List ℕ) × ReadsRequest bytes h rest × (head ≡ request_places h)
IsRequestRead bytes None = (h : RequestHead) (rest : List ℕ) → ReadsRequest bytes h rest → length h.fields ≤ 100 → ⊥

abbrev pub IsReplyRead : List ℕ → Option HeadPlaces → Type 0
IsReplyRead bytes (Some head) = (h : ResponseHead) × (rest : List ℕ) × ReadsResponse bytes h rest × (head ≡ reply_places h)
IsReplyRead bytes None = (h : ResponseHead) (rest : List ℕ) → ReadsResponse bytes h rest → length h.fields ≤ 100 → ⊥
