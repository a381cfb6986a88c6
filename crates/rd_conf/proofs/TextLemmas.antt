-- The texts of an array's values, as the definitions see them.
use Rattle.std.proofs.Common.{◌≡◌, ◌≢◌, ◌≤◌, ◌<◌, ℕ, ◌+◌, Bool, true, false, ◌&&◌, List, [], ◌∷◌, ◌++◌, Some, is_some, Ok, Err, if◌then◌else◌, nat_le, nat_eq, length, drop, get_or, refl, sym, ap, ◌∙◌, le-leb, eq-eqb, arith}
use Rattle.std.proofs.lemmas.List.{drop_all}
use Rattle.std.proofs.lemmas.Bool.Decides.{nat_tests}
use Rattle.std.specs.List.{list_all}
use Rattle.std.specs.Option.{option_map_or}
use Rattle.toml.specs.declared.value.Value.{Value}
use Rattle.toml.specs.Data.{Data, string, integer, float, boolean, datetime, array, table, Items, as_str, as_array}
use Rattle.toml.specs.View.{view, items_view}
use Rattle.toml.proofs.Views.{items_view-drop}
use Rattle.rd_conf.specs.declared.key.Key.{Key}
use Rattle.rd_conf.specs.declared.settings.SettingsFail.TheVariants.{WrongKind}
use Rattle.rd_conf.specs.Rows.{is_address}
use Rattle.rd_conf.specs.Lists.{items_list, are_texts, texts_of, text_or_none, texts_in, is_name, are_names, is_no_name_of, are_free_names, are_addresses, are_addresses_or_none}

-- a test of every value is one of every item
list_all_items : (p : Data → Bool) (vs : List Value) → list_all (λ v. p (view v)) vs ≡ list_all p (items_list (items_view vs))
list_all_items p [] = refl
list_all_items p (v ∷ vs) = ap (λ b. p (view v) && b) (list_all_items p vs)

-- every value is a text
pub values_are_texts : (vs : List Value) → list_all (λ v. is_some (as_str (view v))) vs ≡ are_texts (items_view vs)
unfolding are_texts
values_are_texts vs = list_all_items (λ d. is_some (as_str d)) vs

passes_first : (p : List ℕ → Bool) (first : Data) (more : List (List ℕ)) (b : Bool) → b ≡ list_all p more
    → (option_map_or p (as_str first) true && b) ≡ list_all p (text_or_none first ++ more)
passes_first p (string text) more b h = ap (λ x. p text && x) h
passes_first p (integer z) more b h = h
passes_first p (float x) more b h = h
passes_first p (boolean x) more b h = h
passes_first p (datetime t) more b h = h
passes_first p (array items) more b h = h
passes_first p (table ms) more b h = h

-- a test of every text is one of every value that is a text
pub passes_all : (p : List ℕ → Bool) (vs : List Value) → list_all (λ v. option_map_or p (as_str (view v)) true) vs ≡ list_all p (texts_of (items_view vs))
unfolding texts_of
passes_all p [] = refl
passes_all p (v ∷ vs) = passes_first p (view v) (texts_of (items_view vs)) _ (passes_all p vs)

length_first : (first : Data) (more : List (List ℕ)) (n : ℕ) (b : Bool) → (is_some (as_str first) && b) ≡ true → (b ≡ true → length more ≡ n)
    → length (text_or_none first ++ more) ≡ n + 1
length_first (string text) more n b h rest = let e = rest h in omega arith
length_first (integer z) more n b h rest = absurd (cc h)
length_first (float x) more n b h rest = absurd (cc h)
length_first (boolean x) more n b h rest = absurd (cc h)
length_first (datetime t) more n b h rest = absurd (cc h)
length_first (array items) more n b h rest = absurd (cc h)
length_first (table ms) more n b h rest = absurd (cc h)

-- where every value is a text, there are as many texts as values
length_texts : (vs : List Value) → are_texts (items_view vs) ≡ true → length (texts_of (items_view vs)) ≡ length vs
unfolding texts_of are_texts
length_texts [] h = refl
length_texts (v ∷ vs) h =
    let first : length (text_or_none (view v) ++ texts_of (items_view vs)) ≡ length vs + 1 =
    length_first (view v) (texts_of (items_view vs)) (length vs) (are_texts (items_view vs)) h (length_texts vs) in
    omega arith

-- names, where every value is a text
pub names_from_values : (b : Bool) (vs : List Value) → are_texts (items_view vs) ≡ true → length vs ≤ 32
    → b ≡ list_all (λ v. option_map_or is_name (as_str (view v)) true) vs → b ≡ are_names (texts_of (items_view vs))
unfolding are_names
names_from_values b vs h few same = rw (length_texts vs h, le-leb (length vs) 32 few) (same ∙ passes_all is_name vs)

pub many_values : (vs : List Value) → are_texts (items_view vs) ≡ true → 32 < length vs → nat_le (length vs) 32 ≡ are_names (texts_of (items_view vs))
unfolding are_names
many_values vs h many = rw (length_texts vs h) (grind (arith, nat_tests))

-- names that are none of the firm ones
pub free_from_values : (firm : List (List ℕ)) (b : Bool) (vs : List Value) → are_names (texts_of (items_view vs)) ≡ true
    → b ≡ list_all (λ v. option_map_or (is_no_name_of firm) (as_str (view v)) true) vs → b ≡ are_free_names firm (texts_of (items_view vs))
unfolding are_free_names
free_from_values firm b vs h same = rw h (same ∙ passes_all (is_no_name_of firm) vs)

-- addresses, where every value is a text
pub addresses_from_values : (b : Bool) (copies : ℕ) (vs : List Value) → are_texts (items_view vs) ≡ true → length vs ≡ copies
    → b ≡ list_all (λ v. option_map_or is_address (as_str (view v)) true) vs → b ≡ are_addresses copies (texts_of (items_view vs))
unfolding are_addresses
addresses_from_values b copies vs h count same =
    rw (length_texts vs h, eq-eqb (length vs) copies count) (same ∙ passes_all is_address vs)

pub other_count : (copies : ℕ) (vs : List Value) → are_texts (items_view vs) ≡ true → length vs ≢ copies
    → nat_eq (length vs) copies ≡ are_addresses copies (texts_of (items_view vs))
unfolding are_addresses
other_count copies vs h other = rw (length_texts vs h) (grind (arith, nat_tests))

-- no addresses, or one for each copy
pub some_addresses : (b : Bool) (copies : ℕ) (vs : List Value) → are_texts (items_view vs) ≡ true → nat_eq (length vs) 0 ≡ false
    → b ≡ are_addresses copies (texts_of (items_view vs)) → b ≡ are_addresses_or_none copies (texts_of (items_view vs))
unfolding are_addresses_or_none
some_addresses b copies vs h some same = rw (length_texts vs h, some) same

pub no_addresses : (copies : ℕ) (vs : List Value) → are_texts (items_view vs) ≡ true → nat_eq (length vs) 0 ≡ true
    → true ≡ are_addresses_or_none copies (texts_of (items_view vs))
unfolding are_addresses_or_none
no_addresses copies vs h none = rw (length_texts vs h, none) refl

-- a value that is an array
pub an_array : (key : Key) (d : Data) (items : Items) (b : Bool) → Some items ≡ as_array d → b ≡ are_texts items
    → texts_in key d ≡ (if b then Ok (texts_of items) else Err (WrongKind key))
an_array key (array found) items b h same = let e : items ≡ found = cc h in rw (same, e) refl
an_array key (string text) items b h same = absurd (cc h)
an_array key (integer z) items b h same = absurd (cc h)
an_array key (float x) items b h same = absurd (cc h)
an_array key (boolean x) items b h same = absurd (cc h)
an_array key (datetime t) items b h same = absurd (cc h)
an_array key (table ms) items b h same = absurd (cc h)

-- the texts from a value on
pub texts_from : (vs : List Value) (i : ℕ) (d : Value) → i < length vs → d ≡ get_or vs i d
    → texts_of (items_view (drop i vs)) ≡ text_or_none (view d) ++ texts_of (items_view (drop (i + 1) vs))
unfolding texts_of
texts_from vs i d h is =
    ap texts_of (items_view-drop vs i d h)
    ∙ ap (λ (v : Value). text_or_none (view v) ++ texts_of (items_view (drop (i + 1) vs))) (sym is)

-- no texts are left
pub texts_over : (vs : List Value) (i : ℕ) → length vs ≤ i → texts_of (items_view (drop i vs)) ≡ []
unfolding texts_of
texts_over vs i h = ap (λ (t : List Value). texts_of (items_view t)) (drop_all i vs h)
