-- The places of a field line's parts.
use Rattle.std.proofs.Common.{◌≡◌, ◌≢◌, ℕ, ◌+◌, true, not, List, [], ◌∷◌, ◌++◌, length, drop, refl, sym, ap, ◌∙◌, arith, append_assoc, length-append, drop-drop, ◌==◌}
use Rattle.std.proofs.lemmas.Bool.Decides.{nat_tests}
use Rattle.std.proofs.lemmas.Bool.{false≢true}
use Rattle.std.proofs.lemmas.List.Elements.{All-head, All-tail, All-nil, All-cons, All-weaker, All-append}
use Rattle.std.specs.List.{position_or_len}
use Rattle.httparse.specs.Grammar.{is_token_byte, is_value_byte, AllPass, LineEnd, crlf, lf, print_end, Field}
use Rattle.httparse.specs.Pieces.{FieldLine}
use Rattle.httparse.proofs.PieceLemmas.{colon_ends_token, print_field-append}
use Rattle.rd_http_frame.specs.Places.{first_at, AtField}
use Rattle.rd_http_frame.specs.declared.place.FieldPlace.{FieldPlace}

pub pos_stop : (stop : ℕ) (w rest : List ℕ) → AllPass (λ x. not (x == stop)) w → position_or_len (λ x. x == stop) (w ++ stop ∷ rest) ≡ length w
pos_stop stop [] rest h = grind (arith, nat_tests)
pos_stop stop (x ∷ w) rest h =
    let here : not (x == stop) ≡ true = All-head (λ v. not (v == stop) ≡ true) x w h in
    rw here (ap (λ (n : ℕ). 1 + n) (pos_stop stop w rest (All-tail (λ v. not (v == stop) ≡ true) x w h)) ∙ omega arith)

token_no_colon : (x : ℕ) → is_token_byte x ≡ true → not (x == 58) ≡ true
token_no_colon x h =
    let other : x ≢ 58 = λ e. false≢true (sym colon_ends_token ∙ ap is_token_byte (sym e) ∙ h) in grind (arith, nat_tests, other)

value_no_feed : (x : ℕ) → is_value_byte x ≡ true → not (x == 10) ≡ true
value_no_feed x h = grind (arith, nat_tests, h)

drop-length : (w rest : List ℕ) → drop (length w) (w ++ rest) ≡ rest
drop-length [] rest = refl
drop-length (x ∷ w) rest = drop-length w rest

-- from the colon on
pub from_colon : (bytes : List ℕ) (at : ℕ) (f : Field) (rest : List ℕ) → FieldLine f (drop at bytes) rest
    → drop (at + length f.name) bytes ≡ 58 ∷ (f.raw ++ (print_end f.end ++ rest))
from_colon bytes at f rest x =
    sym (drop-drop (length f.name) at bytes)
    ∙ ap (λ (t : List ℕ). drop (length f.name) t) (x.1 ∙ print_field-append f rest)
    ∙ drop-length f.name (58 ∷ (f.raw ++ (print_end f.end ++ rest)))

pub name_place : (bytes : List ℕ) (at : ℕ) (f : Field) (rest : List ℕ) → FieldLine f (drop at bytes) rest
    → first_at bytes at 58 ≡ at + length f.name
name_place bytes at f rest x =
    ap (λ (t : List ℕ). at + position_or_len (λ b. b == 58) t) (x.1 ∙ print_field-append f rest)
    ∙ ap (λ (n : ℕ). at + n) (pos_stop 58 f.name (f.raw ++ (print_end f.end ++ rest))
    (All-weaker (λ v. is_token_byte v ≡ true) (λ v. not (v == 58) ≡ true) token_no_colon f.name x.0.name.1))

-- the bytes of the line's end before its line feed
abbrev before_feed : LineEnd → List ℕ
before_feed crlf = 13 ∷ []
before_feed lf = []

end_split : (raw : List ℕ) (e : LineEnd) (rest : List ℕ) → 58 ∷ (raw ++ (print_end e ++ rest)) ≡ ((58 ∷ raw) ++ before_feed e) ++ 10 ∷ rest
end_split raw crlf rest = sym (append_assoc (58 ∷ raw) (13 ∷ []) (10 ∷ rest))
end_split raw lf rest = sym (append_assoc (58 ∷ raw) [] (10 ∷ rest))

line_no_feed : (raw : List ℕ) (e : LineEnd) → AllPass is_value_byte raw → AllPass (λ x. not (x == 10)) ((58 ∷ raw) ++ before_feed e)
line_no_feed raw e h =
    All-append (λ v. not (v == 10) ≡ true) (58 ∷ raw) (before_feed e)
    (All-cons (λ v. not (v == 10) ≡ true) 58 raw refl (All-weaker (λ v. is_value_byte v ≡ true) (λ v. not (v == 10) ≡ true) value_no_feed raw h))
    (end_no_feed e)
  where
    end_no_feed : (e : LineEnd) → AllPass (λ x. not (x == 10)) (before_feed e)
    end_no_feed crlf = All-cons (λ v. not (v == 10) ≡ true) 13 [] refl (All-nil _)
    end_no_feed lf = All-nil _

pub feed_place : (bytes : List ℕ) (at : ℕ) (f : Field) (rest : List ℕ) → FieldLine f (drop at bytes) rest
    → first_at bytes (at + length f.name) 10 ≡ at + length f.name + (1 + length f.raw + length (before_feed f.end))
feed_place bytes at f rest x =
    ap (λ (t : List ℕ). at + length f.name + position_or_len (λ b. b == 10) t) (from_colon bytes at f rest x ∙ end_split f.raw f.end rest)
    ∙ ap (λ (n : ℕ). at + length f.name + n) (pos_stop 10 ((58 ∷ f.raw) ++ before_feed f.end) rest (line_no_feed f.raw f.end x.0.raw)
    ∙ length-append (58 ∷ f.raw) (before_feed f.end) ∙ omega arith)

length_end : (e : LineEnd) → length (print_end e) ≡ length (before_feed e) + 1
length_end crlf = refl
length_end lf = refl

pub at_field : (bytes : List ℕ) (at : ℕ) (p : FieldPlace) → p.name_end ≡ first_at bytes at 58
    → (feed : ℕ) → feed ≡ first_at bytes p.name_end 10 → p.next ≡ feed + 1
    → (f : Field) (rest : List ℕ) → FieldLine f (drop at bytes) rest → AtField at f p
at_field bytes at p n feed g x f rest line =
    let name : p.name_end ≡ at + length f.name = n ∙ name_place bytes at f rest line in
    let found : feed ≡ at + length f.name + (1 + length f.raw + length (before_feed f.end)) =
    g ∙ ap (λ (m : ℕ). first_at bytes m 10) name ∙ feed_place bytes at f rest line in
    record {
      name_end = name;
      next = omega (arith, x, found, length-append (f.name ++ 58 ∷ f.raw) (print_end f.end), length-append f.name (58 ∷ f.raw), length_end f.end);
    }
