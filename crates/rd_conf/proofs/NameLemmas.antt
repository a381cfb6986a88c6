-- Names stay as they are in lower case.
use Rattle.std.proofs.Common.{◌≡◌, ℕ, Bool, true, ◌&&◌, nat_le, List, [], ◌∷◌, Some, Ok, map, length, refl, arith}
use Rattle.std.proofs.lemmas.Bool.Decides.{nat_tests}
use Rattle.std.proofs.lemmas.Bool.{and_parts}
use Rattle.std.specs.Char.{to_ascii_lowercase}
use Rattle.std.specs.List.{list_all}
use Rattle.toml.specs.Data.{Data}
use Rattle.rd_conf.specs.declared.key.Key.{Key}
use Rattle.rd_conf.specs.Lists.{is_name_byte, is_name, are_names, are_free_names, is_no_name_of, texts_in, texts_if}

lower_byte : (c : ℕ) → is_name_byte c ≡ true → to_ascii_lowercase c ≡ c
lower_byte c h = grind (arith, nat_tests)

lower_bytes : (text : List ℕ) → list_all is_name_byte text ≡ true → map to_ascii_lowercase text ≡ text
lower_bytes [] h = refl
lower_bytes (c ∷ text) h =
    let parts = and_parts (is_name_byte c) (list_all is_name_byte text) h in
    rw (lower_byte c parts.0, lower_bytes text parts.1) refl

lower_name : (text : List ℕ) → is_name text ≡ true → map to_ascii_lowercase text ≡ text
unfolding is_name
lower_name text h = lower_bytes text (and_parts (nat_le 1 (length text) && nat_le (length text) 64) (list_all is_name_byte text) h).1

lower_all : (texts : List (List ℕ)) → list_all is_name texts ≡ true → map (map to_ascii_lowercase) texts ≡ texts
lower_all [] h = refl
lower_all (text ∷ texts) h =
    let parts = and_parts (is_name text) (list_all is_name texts) h in
    rw (lower_name text parts.0, lower_all texts parts.1) refl

pub lower_names : (texts : List (List ℕ)) → are_names texts ≡ true → map (map to_ascii_lowercase) texts ≡ texts
unfolding are_names
lower_names texts h = lower_all texts (and_parts (nat_le (length texts) 32) (list_all is_name texts) h).1

pub are_names_when_free : (firm texts : List (List ℕ)) → are_free_names firm texts ≡ true → are_names texts ≡ true
unfolding are_free_names
are_names_when_free firm texts h = (and_parts (are_names texts) (list_all (is_no_name_of firm) texts) h).0

-- the list that is made of texts that are as the key asks
pub taken : (key : Key) (is_right : List (List ℕ) → Bool) (d : Data) (texts made : List (List ℕ)) → texts_in key d ≡ Ok texts → is_right texts ≡ true
    → made ≡ texts → texts_if key is_right (Some d) ≡ Ok made
taken key is_right d texts made read right same = rw (read, right, same) refl
