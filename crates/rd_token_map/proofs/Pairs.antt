-- One pair of a form after another.
use Rattle.std.proofs.Common.{◌≡◌, ℕ, ◌+◌, ◌<◌, ◌≤◌, Bool, true, false, cond, not, List, [], ◌∷◌, ◌++◌, length, take, drop, map, Some, None, refl, sym, ap, ◌∙◌, arith, append-nil}
use Rattle.std.specs.Prelude.{nat_lt, ◌==◌}
use Rattle.std.specs.List.{position, position_or_len, slice_split, join_with_byte, onto_first, flat_map}
use Rattle.std.proofs.lemmas.Bool.{ltb-false}
use Rattle.std.proofs.lemmas.List.{drop_all}
use Rattle.std.proofs.lemmas.List.Sums.{prefix_len-le-length}
use Rattle.std.specs.Str.Lossy.{utf8_lossy}
use Rattle.percent_encoding.specs.Percent.{percent_decode}
use Rattle.form_urlencoded.specs.Form.{decode}
use Rattle.rd_base.specs.History.{Row}
use Rattle.rd_base.specs.Swap.{swap_words}
use Rattle.rd_token_map.proofs.Parts.{first_part, only_part}
use Rattle.rd_token_map.specs.SwapForm.{swap_form, swap_pair, has_replacement, written}
use Rattle.rd_token_map.specs.WordsIn.{words_in, words_in_form, words_of_pair}

pub place_some : (p : ℕ → Bool) (text : List ℕ) (place : ℕ) → position p text ≡ Some place → position_or_len p text ≡ place
place_some p text place e = go (nat_lt (position_or_len p text) (length text)) e
  where
    go : (t : Bool) → cond t (Some (position_or_len p text)) None ≡ Some place → position_or_len p text ≡ place
    go true e = cc e
    go false e = absurd (cc e)

pub place_none : (p : ℕ → Bool) (text : List ℕ) → position p text ≡ None → position_or_len p text ≡ length text
place_none p text e = omega (arith, prefix_len-le-length (λ x. not (p x)) text, ltb-false (position_or_len p text) (length text) (go (nat_lt (position_or_len p text) (length text)) e))
  where
    go : (t : Bool) → cond t (Some (position_or_len p text)) None ≡ None → t ≡ false
    go true e = absurd (cc e)
    go false e = refl

-- there is a first piece
record IsNotEmpty {X : Type 0} (xs : List X) : Type 0 where
  first : X
  rest : List X
  is : xs ≡ first ∷ rest

split_some : (p : ℕ → Bool) (text : List ℕ) → IsNotEmpty (slice_split p text)
split_some p [] = record { first = []; rest = []; is = refl }
split_some p (b ∷ text) = go (p b) (split_some p text)
  where
    go : (t : Bool) → IsNotEmpty (slice_split p text) → IsNotEmpty (cond t ([] ∷ slice_split p text) (onto_first b (slice_split p text)))
    go true some = record { first = []; rest = slice_split p text; is = refl }
    go false some = record { first = b ∷ some.first; rest = some.rest; is = ap (onto_first b) some.is }

join_more : (f : List ℕ → List ℕ) (piece : List ℕ) (pieces : List (List ℕ)) → IsNotEmpty pieces → join_with_byte 38 (f piece ∷ map f pieces) ≡ f piece ++ 38 ∷ join_with_byte 38 (map f pieces)
join_more f piece pieces some =
    ap (λ ps. join_with_byte 38 (f piece ∷ map f ps)) some.is ∙ sym (ap (λ ps. f piece ++ 38 ∷ join_with_byte 38 (map f ps)) some.is)

abbrev at_and : ℕ → Bool
at_and b = b == 38

-- a pair with an `&` behind it
pub form_more : (copy : ℕ) (rows : List Row) (text : List ℕ) (end : ℕ) → end ≡ position_or_len (λ b. b == 38) text → end < length text → swap_form copy rows text ≡ swap_pair copy rows (take end text) ++ 38 ∷ swap_form copy rows (drop (end + 1) text)
form_more copy rows text end is lt =
    ap (λ ps. join_with_byte 38 (map (swap_pair copy rows) ps)) (first_part at_and text end is lt)
    ∙ join_more (swap_pair copy rows) (take end text) (slice_split at_and (drop (end + 1) text)) (split_some at_and (drop (end + 1) text))

empty_text : utf8_lossy (decode []) ≡ []
unfolding utf8_lossy percent_decode
empty_text = refl

pub empty_form : (copy : ℕ) (rows : List Row) → swap_form copy rows [] ≡ []
empty_form copy rows = ap (λ text. cond (has_replacement text) [] (written [] text (swap_words copy rows text))) empty_text ∙ either (has_replacement [])
  where
    either : (t : Bool) → cond t [] (written [] [] (swap_words copy rows [])) ≡ []
    either true = refl
    either false = refl

-- the last pair
pub form_last : (copy : ℕ) (rows : List Row) (text : List ℕ) (end : ℕ) → end ≡ position_or_len (λ b. b == 38) text → length text ≤ end → swap_form copy rows text ≡ swap_pair copy rows (take end text) ++ swap_form copy rows (drop end text)
form_last copy rows text end is past =
    ap (λ ps. join_with_byte 38 (map (swap_pair copy rows) ps)) (only_part at_and text end is past)
    ∙ sym (append-nil (swap_pair copy rows (take end text)))
    ∙ ap (λ more. swap_pair copy rows (take end text) ++ more) (sym (ap (swap_form copy rows) (drop_all end text past) ∙ empty_form copy rows))

-- ---- the words of a form

pub words_more : (text : List ℕ) (end : ℕ) → end ≡ position_or_len (λ b. b == 38) text → end < length text → words_in_form text ≡ words_of_pair (take end text) ++ words_in_form (drop (end + 1) text)
words_more text end is lt = ap (flat_map words_of_pair) (first_part at_and text end is lt)

pub no_words : words_in_form [] ≡ []
no_words = append-nil (words_of_pair []) ∙ ap (λ text. cond (has_replacement text) [] (words_in text)) empty_text ∙ either (has_replacement [])
  where
    either : (t : Bool) → cond t [] (words_in []) ≡ []
    either true = refl
    either false = refl

pub words_last : (text : List ℕ) (end : ℕ) → end ≡ position_or_len (λ b. b == 38) text → length text ≤ end → words_in_form text ≡ words_of_pair (take end text) ++ words_in_form (drop end text)
words_last text end is past =
    ap (flat_map words_of_pair) (only_part at_and text end is past)
    ∙ ap (λ more. words_of_pair (take end text) ++ more) (sym (ap words_in_form (drop_all end text past) ∙ no_words))
