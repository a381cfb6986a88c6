-- The fields of one name, header by header.
use Rattle.std.proofs.Common.{◌≡◌, ℕ, ◌+◌, ◌-◌, ◌<◌, true, false, List, ◌∷◌, length, get_or, map, take, drop, ap, sym, ◌∙◌, refl, arith, length-drop}
use Rattle.std.specs.Prelude.{Some}
use Rattle.std.proofs.lemmas.List.{drop_more, take_all}
use Rattle.std.specs.Str.{str_eq_ignore_ascii_case}
use Rattle.httparse.specs.declared.spans.HeaderSpan.{HeaderSpan}
use Rattle.httparse.specs.Spans.{span_bytes, header_bytes}
use Rattle.rd_http_frame.specs.Fields.{values_of, IsFirst}

abbrev pub values_at : List ℕ → List ℕ → List HeaderSpan → List (List ℕ)
values_at name bytes headers = values_of name (map (header_bytes bytes) headers)

abbrev pub blank : HeaderSpan
blank = record { name = record { start = 0; end = 0 }; value = record { start = 0; end = 0 } }

named_here : (name bytes : List ℕ) (h : HeaderSpan) (more : List HeaderSpan) → str_eq_ignore_ascii_case (span_bytes bytes h.name) name ≡ true
    → values_at name bytes (h ∷ more) ≡ span_bytes bytes h.value ∷ values_at name bytes more
named_here name bytes h more e = rw e refl

not_named_here : (name bytes : List ℕ) (h : HeaderSpan) (more : List HeaderSpan) → str_eq_ignore_ascii_case (span_bytes bytes h.name) name ≡ false
    → values_at name bytes (h ∷ more) ≡ values_at name bytes more
not_named_here name bytes h more e = rw e refl

pub first_here : (name bytes : List ℕ) (hs : List HeaderSpan) (i : ℕ) → i < length hs → values_at name bytes (drop i hs) ≡ values_at name bytes hs
    → str_eq_ignore_ascii_case (span_bytes bytes (get_or hs i blank).name) name ≡ true → IsFirst name bytes hs (Some i)
first_here name bytes hs i inside so_far e =
    let cut = drop_more hs i blank inside in
    (get_or hs i blank, cut, sym so_far ∙ ap (values_at name bytes) cut ∙ named_here name bytes (get_or hs i blank) (drop (i + 1) hs) e)

pub not_here : (name bytes : List ℕ) (hs : List HeaderSpan) (i : ℕ) → i < length hs → values_at name bytes (drop i hs) ≡ values_at name bytes hs
    → str_eq_ignore_ascii_case (span_bytes bytes (get_or hs i blank).name) name ≡ false → values_at name bytes (drop (i + 1) hs) ≡ values_at name bytes hs
not_here name bytes hs i inside so_far e =
    let cut = drop_more hs i blank inside in
    sym (not_named_here name bytes (get_or hs i blank) (drop (i + 1) hs) e) ∙ ap (values_at name bytes) (sym cut) ∙ so_far

pub again : (name bytes : List ℕ) (hs : List HeaderSpan) (n : ℕ) (one two : List ℕ) (more : List (List ℕ)) → values_at name bytes hs ≡ one ∷ values_at name bytes (drop n hs)
    → values_at name bytes (take (length hs - n) (drop n hs)) ≡ two ∷ more → values_at name bytes hs ≡ one ∷ two ∷ more
again name bytes hs n one two more e f =
    let whole : take (length hs - n) (drop n hs) ≡ drop n hs = take_all (length hs - n) (drop n hs) (omega (arith, length-drop n hs)) in
    e ∙ ap (λ vs. one ∷ vs) (ap (values_at name bytes) (sym whole) ∙ f)
