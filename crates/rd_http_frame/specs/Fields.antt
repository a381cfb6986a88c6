-- What the fields of a head say of its body.
use Rattle.std.specs.Prelude.{◌≡◌, ℕ, ◌+◌, Bool, ◌&&◌, ◌==◌, nat_le, if◌then◌else◌, List, [], ◌∷◌, length, map, drop, codes, Option, Some, None, option_map}
use Rattle.std.specs.List.{list_all}
use Rattle.std.specs.Char.{is_ascii_digit}
use Rattle.std.specs.Str.{str_eq_ignore_ascii_case}
use Rattle.std.specs.Str.Parse.{digits_value}
use Rattle.httparse.specs.declared.spans.HeaderSpan.{HeaderSpan}
use Rattle.httparse.specs.Spans.{IsWithin, span_bytes, header_bytes}
use Rattle.rd_http_frame.specs.declared.fields.Framing.{Framing}
use Rattle.rd_http_frame.specs.declared.fields.Framing.TheVariants.{Unstated, Length, Chunks}
use Rattle.rd_http_frame.specs.declared.fields.Found.{Found}
use Rattle.rd_http_frame.specs.declared.fields.Found.TheVariants.{Absent, Once, Again}

-- the values of the fields of this name, in their order. Names are compared without regard to the case
-- of letters: RFC 9110, section 5.1
abbrev pub values_of : List ℕ → List (List ℕ × List ℕ) → List (List ℕ)
values_of name [] = []
values_of name (f ∷ fields) =
    if str_eq_ignore_ascii_case f.0 name then f.1 ∷ values_of name fields else values_of name fields

-- 1*DIGIT, RFC 9110, section 8.6; here of no more than 15 digits
abbrev pub is_length : List ℕ → Bool
is_length value = nat_le 1 (length value) && (nat_le (length value) 15 && list_all is_ascii_digit value)

-- the number that it writes
abbrev pub length_of : List ℕ → Option ℕ
length_of value = if is_length value then Some (digits_value 10 value) else None

-- the coding that is taken: RFC 9112, section 7.1. HTTP/1.0 has none: section 6.1
abbrev pub is_coding : ℕ → List ℕ → Bool
is_coding minor value = minor == 1 && str_eq_ignore_ascii_case value (codes "chunked")

-- What these values of Content-Length and of Transfer-Encoding say, in version 1.minor. RFC 9112,
-- section 6.3, lets a recipient go on at some that are None here: at two equal lengths, at both
-- fields, at other codings before `chunked`
abbrev pub framing_by : ℕ → List (List ℕ) → List (List ℕ) → Option Framing
framing_by minor [] [] = Some Unstated
framing_by minor (size ∷ []) [] = option_map (λ n. Length n) (length_of size)
framing_by minor [] (coding ∷ []) = if is_coding minor coding then Some Chunks else None
framing_by minor (size ∷ []) (coding ∷ codings) = None
framing_by minor (size ∷ other ∷ sizes) [] = None
framing_by minor (size ∷ other ∷ sizes) (coding ∷ codings) = None
framing_by minor [] (coding ∷ other ∷ codings) = None

abbrev pub framing_of : ℕ → List (List ℕ × List ℕ) → Option Framing
framing_of minor fields = framing_by minor (values_of (codes "content-length") fields) (values_of (codes "transfer-encoding") fields)

-- what was found is none, the one, or two and more of these values
abbrev pub IsFound : List ℕ → List (List ℕ) → Found → Type 0
IsFound bytes values Absent = values ≡ []
IsFound bytes values (Once span) = IsWithin (length bytes) span × (values ≡ span_bytes bytes span ∷ [])
IsFound bytes values Again = (one : List ℕ) × (two : List ℕ) × (more : List (List ℕ)) × (values ≡ one ∷ two ∷ more)

-- the first header of this name: what comes before it has none
abbrev pub IsFirst : List ℕ → List ℕ → List HeaderSpan → Option ℕ → Type 0
IsFirst name bytes headers None = values_of name (map (header_bytes bytes) headers) ≡ []
IsFirst name bytes headers (Some place) =
    (h : HeaderSpan) × (drop place headers ≡ h ∷ drop (place + 1) headers)
    × (values_of name (map (header_bytes bytes) headers) ≡ span_bytes bytes h.value ∷ values_of name (map (header_bytes bytes) (drop (place + 1) headers)))
