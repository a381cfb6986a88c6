-- What a request on the operator's port asks for.
use Rattle.std.specs.Prelude.{ℕ, ◌+◌, ◌-◌, ◌^◌, ◌==◌, ◌&&◌, not, nat_le, Bool, List, Option, Some, None, length, take, drop, codes, bytes_eq, if◌then◌else◌}
use Rattle.std.specs.List.{prefix_len, list_all}
use Rattle.std.specs.Char.{is_ascii_digit}
use Rattle.std.specs.Str.Parse.{digits_value}
use Rattle.rd_base.specs.declared.values.Scan.{Scan}
use Rattle.rd_base.specs.declared.values.Scan.TheVariants.{Whole, More, Bad, TooBig, Unsupported}
use Rattle.rd_base.specs.declared.values.Part.TheVariants.{Request}
use Rattle.rd_http_frame.specs.Fronts.{after_front, is_target_byte}
use Rattle.rd_http_scan.specs.Scans.{head_scan}
use Rattle.rd_operator.specs.declared.routes.Route.{Route}
use Rattle.rd_operator.specs.declared.routes.Route.TheVariants as route
use Rattle.rd_operator.specs.declared.asked.Asked.{Asked}
use Rattle.rd_operator.specs.declared.asked.Asked.TheVariants.{Refused, Live, Totals, Notes, Note}
use Rattle.rd_operator.specs.Routes.{route_at}

-- ---- ids

-- 1 to 19 digits
abbrev pub is_id : List ℕ → Bool
is_id text = nat_le 1 (length text) && (nat_le (length text) 19 && list_all is_ascii_digit text)

-- the number that they write, up to 2^63-1
abbrev pub id_within : ℕ → Option ℕ
id_within id = if nat_le id (2 ^ 63 - 1) then Some id else None

abbrev pub id_of : List ℕ → Option ℕ
id_of text = if is_id text then id_within (digits_value 10 text) else None

-- ---- the start line

-- a byte of a method, or of a target before its query: visible ASCII but `?`
abbrev pub is_word_byte : ℕ → Bool
is_word_byte b = is_target_byte b && not (b == 63)

abbrev pub word : List ℕ → List ℕ
word text = take (prefix_len is_word_byte text) text

-- the method that a head has: the first word behind the line ends at the front
abbrev pub method_of : List ℕ → List ℕ
method_of bytes = word (after_front bytes)

-- its target up to a `?`: the word behind the method and a space
abbrev pub path_of : List ℕ → List ℕ
path_of bytes = word (drop (length (method_of bytes) + 1) (after_front bytes))

-- ---- what is asked for

abbrev pub notes_from : Option ℕ → Asked
notes_from (Some id) = Notes id
notes_from None = Refused 400

abbrev pub note_of : Option ℕ → Asked
note_of (Some id) = Note id
note_of None = Refused 400

-- by the page's route; an id is what is behind the route's front
abbrev pub routed : List ℕ → Route → Asked
routed path route.Live = Live
routed path route.Totals = Totals
routed path route.Sessions = Notes 0
routed path route.From = notes_from (id_of (drop (length (codes "/sessions/from/")) path))
routed path route.One = note_of (id_of (drop (length (codes "/sessions/")) path))

-- no route is 404, before another method than GET is 405
abbrev pub by_route : List ℕ → List ℕ → Option Route → Asked
by_route method path None = Refused 404
by_route method path (Some route) = if bytes_eq method (codes "GET") then routed path route else Refused 405

abbrev pub asked_at : List ℕ → List ℕ → Asked
asked_at method path = by_route method path (route_at path)

-- by what the bytes come to as a head. Bytes that are a part of one are those of a source that has ended
abbrev pub scanned : List ℕ → Scan → Asked
scanned bytes (Whole len) = asked_at (method_of bytes) (path_of bytes)
scanned bytes TooBig = Refused 431
scanned bytes More = Refused 400
scanned bytes Bad = Refused 400
scanned bytes (Unsupported code) = Refused 400

abbrev pub asked : List ℕ → Asked
asked bytes = scanned bytes (head_scan Request bytes)
