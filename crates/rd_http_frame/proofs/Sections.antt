-- The line feeds of a trailer.
use Rattle.std.proofs.Common.{◌≡◌, ℕ, ◌+◌, ◌<◌, ◌≤◌, List, [], ◌∷◌, ◌++◌, length, take, sym, ap, ◌∙◌, arith, append-nil, length-take}
use Rattle.std.specs.List.{flat_map}
use Rattle.std.proofs.lemmas.List.{append_cancel_right, length-map}
use Rattle.httparse.specs.Grammar.{LineEnd, Field, print_field}
use Rattle.httparse.specs.Spans.{SectionExceeds, IsSectionAt, header_bytes, name_and_value}
use Rattle.httparse.specs.declared.spans.HeaderSpan.{HeaderSpan}
use Rattle.rd_http_frame.specs.Trailers.{trailer_feeds}
use Rattle.rd_http_frame.proofs.HeadLines.{feeds-fields}

-- more fields than there is room for are as many lines
pub section_exceeds_feeds : (room : ℕ) (buf : List ℕ) → SectionExceeds room buf → room < trailer_feeds buf
section_exceeds_feeds room buf x =
    let front : x.0 ≡ flat_map print_field x.3 =
    append_cancel_right x.0 (flat_map print_field x.3) (10 ∷ []) (x.4.1 ∙ append-nil (flat_map print_field x.3 ++ 10 ∷ [])) in
    let feeds : trailer_feeds buf ≡ length x.3 + trailer_feeds x.1 =
    ap (λ (t : List ℕ). trailer_feeds t) (x.2 ∙ ap (λ (t : List ℕ). t ++ x.1) front) ∙ feeds-fields x.3 x.1 x.4.0 in
    omega (arith, feeds, x.5)

-- as many fields as headers that cover them
pub section_fields_fit : (room : ℕ) (buf : List ℕ) (start : ℕ) (headers : List HeaderSpan) (len count : ℕ) (fields : List Field) (last : LineEnd)
    → IsSectionAt buf start headers len count fields last → length headers ≤ room → length fields ≤ room
section_fields_fit room buf start headers len count fields last x fits =
    let same : length (take count headers) ≡ length fields =
    sym (length-map (take count headers) (header_bytes buf)) ∙ ap (λ (t : List (List ℕ × List ℕ)). length t) x.fields_are ∙ length-map fields name_and_value in
    omega (arith, same, fits, length-take count headers)
