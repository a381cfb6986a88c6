-- The first element that passes a test, in a list and in what it shows.
use Rattle.std.proofs.Common.{◌≡◌, ℕ, ◌+◌, Bool, true, false, cond, not, List, [], ◌∷◌, length, map, Option, Some, None, find, refl, sym, ap, ap₂, ◌∙◌}
use Rattle.std.specs.Prelude.{slice_get, nat_lt}
use Rattle.std.specs.List.{position, position_or_len, prefix_len}
use Rattle.std.proofs.lemmas.Bool.{ltb-false}
use Rattle.std.proofs.lemmas.List.{length-map}
use Rattle.std.proofs.lemmas.List.Folds.{find_at}
use Rattle.std.proofs.lemmas.Option.{slice_get_past}

prefix_map : {X Y : Type 0} (f : X → Y) (p : Y → Bool) (xs : List X) → prefix_len (λ x. p (f x)) xs ≡ prefix_len p (map f xs)
prefix_map f p [] = refl
prefix_map f p (x ∷ xs) = ap (λ n. cond (p (f x)) (1 + n) 0) (prefix_map f p xs)

position_map : {X Y : Type 0} (f : X → Y) (p : Y → Bool) (xs : List X) → position (λ x. p (f x)) xs ≡ position p (map f xs)
position_map f p xs = ap₂ (λ n m. cond (nat_lt n m) (Some n) None) (prefix_map f (λ y. not (p y)) xs) (sym (length-map xs f))

-- the place that was found in a list is that in what the list shows
pub place_shown : {X Y : Type 0} (f : X → Y) (p : Y → Bool) (xs slice : List X) (all : List Y) (place : Option ℕ) → place ≡ position (λ x. p (f x)) slice → slice ≡ xs → map f xs ≡ all → position p all ≡ place
place_shown f p xs slice all place found same shown =
    ap (position p) (sym shown) ∙ sym (position_map f p xs) ∙ ap (position (λ x. p (f x))) (sym same) ∙ sym found

at_place : (n : ℕ) (t : Bool) (place : ℕ) → cond t (Some n) None ≡ Some place → n ≡ place
at_place n true place e = cc e
at_place n false place e = absurd (cc e)

past_end : (n : ℕ) (t : Bool) → cond t (Some n) None ≡ None → t ≡ false
past_end n true e = absurd (cc e)
past_end n false e = refl

pub found_at : {Y : Type 0} (p : Y → Bool) (all : List Y) (place : ℕ) → position p all ≡ Some place → find p all ≡ slice_get all place
found_at p all place e = find_at p all ∙ ap (slice_get all) (at_place (position_or_len p all) (nat_lt (position_or_len p all) (length all)) place e)

pub found_none : {Y : Type 0} (p : Y → Bool) (all : List Y) → position p all ≡ None → find p all ≡ None
found_none p all e =
    find_at p all ∙ slice_get_past all (position_or_len p all) (ltb-false (position_or_len p all) (length all) (past_end (position_or_len p all) (nat_lt (position_or_len p all) (length all)) e))
