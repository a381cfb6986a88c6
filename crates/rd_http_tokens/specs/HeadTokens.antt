-- The tokens of a request and of a reply in the words of the grammar of heads: RFC 9112, sections 2 to 7.
use Rattle.std.specs.Prelude.{◌≡◌, ℕ, ◌<◌, ◌^◌, ◌&&◌, not, bytes_eq, Bool, true, false, if◌then◌else◌, List, [], ◌∷◌, ◌++◌, length, codes, All, Option, Some, None, unwrap_or}
use Rattle.std.specs.List.{flat_map, list_any}
use Rattle.httparse.specs.Grammar.{LineEnd, Field, IsField, field_value, print_section, RequestHead, IsRequestHead, print_request, ResponseHead, IsResponseHead, print_response}
use Rattle.rd_base.specs.Token.{Token, token}
use Rattle.rd_base.specs.WordCut.{cut_words}
use Rattle.rd_base.specs.declared.names.NameRules.{NameRules}
use Rattle.rd_base.specs.declared.values.Note.{Note}
use Rattle.rd_base.specs.declared.values.Part.{Part}
use Rattle.rd_base.specs.declared.values.Part.TheVariants.{Request, Reply}
use Rattle.rd_base.specs.declared.values.Phase.{Phase}
use Rattle.rd_base.specs.declared.values.Side.{Side}
use Rattle.rd_base.specs.declared.values.TokenKind.TheVariants.{Firm, Name}
use Rattle.rd_body_tokens.specs.declared.place.BodyKind.{BodyKind}
use Rattle.rd_body_tokens.specs.declared.place.BodyKind.TheVariants.{Raw}
use Rattle.rd_body_tokens.specs.declared.place.Place.TheVariants.{Fresh}
use Rattle.rd_http_frame.specs.Flats.{with_length}
use Rattle.rd_http_tokens.specs.declared.stage.Standing.TheVariants.{Plain}
use Rattle.rd_http_tokens.specs.Tokens.{is_passed, is_type, standing, value_words, kind_of_type, media_type, body_tokens, trailer_tokens}
use Rattle.rd_http_tokens.specs.HttpOn.{http_on}

-- a field gives its name and the words of its value, where it isn't passed
abbrev pub told : NameRules → Field → List Token
told rules f = if is_passed rules f.name then [] else token Name f.name ∷ value_words (standing rules f.name) (field_value f)

-- the kind by the first Content-Type: RFC 9110, section 8.3
abbrev pub first_kind : List Field → Option BodyKind
first_kind [] = None
first_kind (f ∷ fields) =
    if is_type (codes "content-type") f.name then Some (kind_of_type (media_type (field_value f))) else first_kind fields

-- a coding of the content: RFC 9110, section 8.4
abbrev pub is_coding : Field → Bool
is_coding f = is_type (codes "content-encoding") f.name && not (bytes_eq (field_value f) (codes "identity"))

-- the kind of the body that stands behind these fields
abbrev pub kind_by : List Field → BodyKind
kind_by fields = if list_any is_coding fields then Raw else unwrap_or (first_kind fields) Raw

-- the fields, the head mark and the body
abbrev pub behind_start : NameRules → Bool → List Field → List ℕ → List Token
behind_start rules whole fields body =
    flat_map (told rules) fields ++ (token Firm [] ∷ body_tokens rules (kind_by fields) Plain whole Fresh body)

abbrev pub request_tokens : NameRules → Bool → RequestHead → List ℕ → List Token
request_tokens rules whole h body = (token Firm h.method ∷ cut_words h.target) ++ behind_start rules whole h.fields body

abbrev pub reply_tokens : NameRules → Bool → ResponseHead → List ℕ → List Token
reply_tokens rules whole h body = token Firm h.digits ∷ behind_start rules whole h.fields body

-- what the tokens are of whatever has such a flat form, whole or as a part
pub record AreDeclared (side : Side) (rules : NameRules) : Type 0 where
  pub request : (phase : Phase) (note : Note) (unit body trailer : List ℕ) (h : RequestHead) → IsRequestHead h → length trailer < 2 ^ 32
      → (http_on side rules).flat Request phase note unit true ≡ print_request h ++ (body ++ with_length trailer)
      → (http_on side rules).tokens Request phase note unit ≡ request_tokens rules true h body ++ trailer_tokens rules trailer
  pub reply : (phase : Phase) (note : Note) (unit body trailer : List ℕ) (h : ResponseHead) → IsResponseHead h → length trailer < 2 ^ 32
      → (http_on side rules).flat Reply phase note unit true ≡ print_response h ++ (body ++ with_length trailer)
      → (http_on side rules).tokens Reply phase note unit ≡ reply_tokens rules true h body ++ trailer_tokens rules trailer
  -- the closed tokens of a part are those of the head and of the body so far
  pub request_part : (phase : Phase) (note : Note) (unit body : List ℕ) (h : RequestHead) → IsRequestHead h
      → (http_on side rules).flat Request phase note unit false ≡ print_request h ++ body
      → (http_on side rules).closed Request phase note unit ≡ request_tokens rules false h body
  pub reply_part : (phase : Phase) (note : Note) (unit body : List ℕ) (h : ResponseHead) → IsResponseHead h
      → (http_on side rules).flat Reply phase note unit false ≡ print_response h ++ body
      → (http_on side rules).closed Reply phase note unit ≡ reply_tokens rules false h body
  -- before the head is whole there are none
  pub headless : (part : Part) (phase : Phase) (note : Note) (unit : List ℕ)
      → (http_on side rules).flat part phase note unit false ≡ [] → (http_on side rules).closed part phase note unit ≡ []
  -- a trailer is nothing, or fields and an empty line
  pub trailer : (fields : List Field) (last : LineEnd) → All IsField fields
      → trailer_tokens rules (print_section fields last) ≡ flat_map (told rules) fields
  pub no_trailer : trailer_tokens rules [] ≡ []
