-- A walk over field lines, line by line.
use Rattle.std.proofs.Common.{◌≡◌, ℕ, suc, ◌+◌, ◌-◌, ◌<◌, ◌≤◌, List, [], ◌∷◌, ◌++◌, length, get_or, map, drop, ap, sym, ◌∙◌, refl, arith, length-drop, length-append, append_assoc, append-nil, drop-drop, subst, cond}
use Rattle.std.specs.Prelude.{All}
use Rattle.std.specs.List.{flat_map, prefix_len}
use Rattle.std.proofs.lemmas.List.{drop_more, nil_from_length}
use Rattle.rd_http_frame.proofs.Named.{blank}
use Rattle.std.proofs.lemmas.List.Elements.{All-head, All-tail}
use Rattle.httparse.specs.Grammar.{LineEnd, crlf, lf, print_end, Field, IsField, is_ows, print_field, field_value}
use Rattle.httparse.specs.Pieces.{FieldLine}
use Rattle.httparse.specs.declared.spans.HeaderSpan.{HeaderSpan}
use Rattle.httparse.specs.Spans.{span_bytes, header_bytes, name_and_value, IsHeaderWithin}
use Rattle.httparse.proofs.RunLemmas.{length-slice_range}
use Rattle.rd_http_frame.specs.declared.place.FieldPlace.{FieldPlace}
use Rattle.rd_http_frame.specs.declared.place.FieldSpan.{FieldSpan}
use Rattle.rd_http_frame.specs.Places.{AtField, AreLinesAt, field_at, fields_at, span_of}
use Rattle.rd_http_frame.proofs.FieldPlaces.{from_colon}

drop-length : (w rest : List ℕ) → drop (length w) (w ++ rest) ≡ rest
drop-length [] rest = refl
drop-length (x ∷ w) rest = drop-length w rest

pub record Step (bytes : List ℕ) (line : ℕ) (h : HeaderSpan) (hs : List HeaderSpan) (fields : List Field) : Type 0 where
  pub f : Field
  pub fs : List Field
  pub rest : List ℕ
  pub is : fields ≡ f ∷ fs
  pub here : FieldLine f (drop line bytes) rest
  pub value : span_bytes bytes h.value ≡ field_value f
  pub further : AreLinesAt bytes (line + length (print_field f)) hs fs

pub step : (bytes : List ℕ) (line : ℕ) (h : HeaderSpan) (hs : List HeaderSpan) (fields : List Field) → AreLinesAt bytes line (h ∷ hs) fields → Step bytes line h hs fields
step bytes line h hs [] x = absurd (cc x.covered)
step bytes line h hs (f ∷ fs) x =
    let here : drop line bytes ≡ print_field f ++ (flat_map print_field fs ++ x.rest) = x.lines ∙ append_assoc (print_field f) (flat_map print_field fs) x.rest in
    let same : header_bytes bytes h ≡ name_and_value f = cc x.covered in
    let tail : map (header_bytes bytes) hs ≡ map name_and_value fs = cc x.covered in
    record {
      f = f;
      fs = fs;
      rest = flat_map print_field fs ++ x.rest;
      is = refl;
      here = (All-head IsField f fs x.good, here);
      value = ap (λ p. p.1) same;
      further = record {
        good = All-tail IsField f fs x.good;
        rest = x.rest;
        lines = sym (drop-drop (length (print_field f)) line bytes) ∙ ap (λ (t : List ℕ). drop (length (print_field f)) t) here ∙ drop-length (print_field f) (flat_map print_field fs ++ x.rest);
        covered = tail;
      };
    }

-- a line ends within the bytes
pub line_inside : (bytes : List ℕ) (line : ℕ) (f : Field) (rest : List ℕ) → FieldLine f (drop line bytes) rest → line + length f.name + 1 ≤ length bytes
line_inside bytes line f rest x =
    let size : length (drop line bytes) ≡ length (print_field f) + length rest = ap (λ (t : List ℕ). length t) x.1 ∙ length-append (print_field f) rest in
    let name : length (f.name ++ 58 ∷ f.raw) ≡ length f.name + suc (length f.raw) = length-append f.name (58 ∷ f.raw) in
    let line_size : length (print_field f) ≡ length (f.name ++ 58 ∷ f.raw) + length (print_end f.end) = length-append (f.name ++ 58 ∷ f.raw) (print_end f.end) in
    omega (arith, size, length-drop line bytes, name, line_size)

end_no_space : (e : LineEnd) (rest : List ℕ) → prefix_len is_ows (print_end e ++ rest) ≡ 0
end_no_space crlf rest = refl
end_no_space lf rest = refl

space_in : (raw : List ℕ) (e : LineEnd) (rest : List ℕ) → prefix_len is_ows (raw ++ (print_end e ++ rest)) ≡ prefix_len is_ows raw
space_in [] e rest = end_no_space e rest
space_in (b ∷ raw) e rest = ap (λ (n : ℕ). cond (is_ows b) (1 + n) 0) (space_in raw e rest)

pub span_is : (bytes : List ℕ) (line : ℕ) (h : HeaderSpan) (f : Field) (rest : List ℕ) → FieldLine f (drop line bytes) rest → span_bytes bytes h.value ≡ field_value f
    → IsHeaderWithin (length bytes) h → span_of bytes line (line + length f.name) h ≡ field_at line f
span_is bytes line h f rest x value inside =
    let behind : drop (line + length f.name + 1) bytes ≡ f.raw ++ (print_end f.end ++ rest) =
    sym (drop-drop 1 (line + length f.name) bytes) ∙ ap (λ (t : List ℕ). drop 1 t) (from_colon bytes line f rest x) in
    let blank : prefix_len is_ows (drop (line + length f.name + 1) bytes) ≡ prefix_len is_ows f.raw = ap (λ (t : List ℕ). prefix_len is_ows t) behind ∙ space_in f.raw f.end rest in
    let size : h.value.end - h.value.start ≡ length (field_value f) = sym (length-slice_range bytes h.value.start h.value.end inside.1.0 inside.1.1) ∙ ap (λ (t : List ℕ). length t) value in
    rw (blank, size) refl

pub here_step : (bytes : List ℕ) (line : ℕ) (headers : List HeaderSpan) (i : ℕ) (fields : List Field) → i < length headers → AreLinesAt bytes line (drop i headers) fields
    → Step bytes line (get_or headers i blank) (drop (i + 1) headers) fields
here_step bytes line headers i fields inside x =
    step bytes line (get_or headers i blank) (drop (i + 1) headers) fields
    (subst (λ (hs : List HeaderSpan). AreLinesAt bytes line hs fields) (drop_more headers i blank inside) x)

abbrev pub Walked : List ℕ → ℕ → List HeaderSpan → List FieldSpan → ℕ → ℕ → List Field → Type 0
Walked bytes at headers made line i fields =
    (made ++ fields_at line (drop i fields) ≡ fields_at at fields) × AreLinesAt bytes line (drop i headers) (drop i fields)

pub walk : (bytes : List ℕ) (at line : ℕ) (headers : List HeaderSpan) (i : ℕ) (fields : List Field) (made : List FieldSpan) (p : FieldPlace) (s : FieldSpan)
    → i < length headers → All (IsHeaderWithin (length bytes)) headers
    → ((f : Field) (rest : List ℕ) → FieldLine f (drop line bytes) rest → AtField line f p)
    → s ≡ span_of bytes line p.name_end (get_or headers i blank)
    → Walked bytes at headers made line i fields → Walked bytes at headers (made ++ s ∷ []) p.next (i + 1) fields
walk bytes at line headers i fields made p s inside within place e w =
    let x = here_step bytes line headers i (drop i fields) inside w.1 in
    let found : AtField line x.f p = place x.f x.rest x.here in
    let rest_is : drop (i + 1) fields ≡ x.fs = sym (drop-drop 1 i fields) ∙ ap (λ (t : List Field). drop 1 t) x.is in
    let span_here : s ≡ field_at line x.f =
    e ∙ ap (λ (n : ℕ). span_of bytes line n (get_or headers i blank)) found.name_end
    ∙ span_is bytes line (get_or headers i blank) x.f x.rest x.here x.value (within i blank inside) in
    let joined : (made ++ s ∷ []) ++ fields_at p.next (drop (i + 1) fields) ≡ fields_at at fields =
    append_assoc made (s ∷ []) (fields_at p.next (drop (i + 1) fields))
    ∙ ap (λ (t : List FieldSpan). made ++ s ∷ t) (ap (λ (n : ℕ). fields_at n (drop (i + 1) fields)) found.next ∙ ap (λ (t : List Field). fields_at (line + length (print_field x.f)) t) rest_is)
    ∙ ap (λ (t : FieldSpan). made ++ t ∷ fields_at (line + length (print_field x.f)) x.fs) span_here
    ∙ ap (λ (t : List Field). made ++ fields_at line t) (sym x.is)
    ∙ w.0 in (
      joined,
      subst (λ (n : ℕ). AreLinesAt bytes n (drop (i + 1) headers) (drop (i + 1) fields)) (sym found.next)
          (subst (λ (t : List Field). AreLinesAt bytes (line + length (print_field x.f)) (drop (i + 1) headers) t) (sym rest_is) x.further),
    )

pub walked : (bytes : List ℕ) (at line : ℕ) (headers : List HeaderSpan) (i : ℕ) (fields : List Field) (made : List FieldSpan)
    → length headers ≤ i → Walked bytes at headers made line i fields → made ≡ fields_at at fields
walked bytes at line headers i fields made past w =
    let none : drop i headers ≡ [] = nil_from_length (drop i headers) (omega (arith, length-drop i headers)) in
    let no_field : drop i fields ≡ [] = no_lines (drop i fields) (sym w.1.covered ∙ ap (λ (t : List HeaderSpan). map (header_bytes bytes) t) none) in
    sym (append-nil made) ∙ ap (λ (t : List Field). made ++ fields_at line t) (sym no_field) ∙ w.0
  where
    no_lines : (fs : List Field) → map name_and_value fs ≡ [] → fs ≡ []
    no_lines [] e = refl
    no_lines (f ∷ fs) e = absurd (cc e)
