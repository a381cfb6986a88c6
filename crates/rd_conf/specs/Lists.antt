-- What a key's array of texts means: the list, or the key's fault.
use Rattle.std.specs.Prelude.{ℕ, ◌||◌, ◌&&◌, ◌==◌, not, nat_le, Bool, is_some, if◌then◌else◌, List, [], ◌∷◌, length, Option, Some, None, Result, Ok, Err}
use Rattle.std.specs.List.{list_all, list_any, flat_map}
use Rattle.std.specs.Str.{str_eq_ignore_ascii_case}
use Rattle.toml.specs.Data.{Data, string, array, Items, no_items, item, as_str}
use Rattle.rd_conf.specs.declared.key.Key.{Key}
use Rattle.rd_conf.specs.declared.settings.SettingsFail.{SettingsFail}
use Rattle.rd_conf.specs.declared.settings.SettingsFail.TheVariants.{WrongKind, OutOfRange}
use Rattle.rd_conf.specs.Answers.{◌>>=◌}
use Rattle.rd_conf.specs.Rows.{is_address}

-- the items of an array as a list
abbrev pub items_list : Items → List Data
items_list no_items = []
items_list (item first more) = first ∷ items_list more

-- every item is a text
unfoldable pub are_texts : Items → Bool
are_texts items = list_all (λ value. is_some (as_str value)) (items_list items)

-- the value where it is a text, else nothing
abbrev pub text_or_none : Data → List (List ℕ)
text_or_none (string text) = text ∷ []
text_or_none _ = []

-- the items that are texts
unfoldable pub texts_of : Items → List (List ℕ)
texts_of items = flat_map text_or_none (items_list items)

-- an array whose items all are texts
abbrev pub texts_in : Key → Data → Result (List (List ℕ)) SettingsFail
texts_in key (array items) = if are_texts items then Ok (texts_of items) else Err (WrongKind key)
texts_in key _ = Err (WrongKind key)

-- texts that together are as the key asks
abbrev pub texts_if : Key → (List (List ℕ) → Bool) → Option Data → Result (List (List ℕ)) SettingsFail
texts_if key is_right None = Ok []
texts_if key is_right (Some value) =
    texts_in key value >>= (λ texts. if is_right texts then Ok texts else Err (OutOfRange key))

-- a lower-case letter, a digit, `-` or `_`
abbrev pub is_name_byte : ℕ → Bool
is_name_byte c = ((nat_le 97 c && nat_le c 122) || (nat_le 48 c && nat_le c 57)) || (c == 45 || c == 95)

-- 1 to 64 such bytes
unfoldable pub is_name : List ℕ → Bool
is_name text = (nat_le 1 (length text) && nat_le (length text) 64) && list_all is_name_byte text

-- at most 32 names
unfoldable pub are_names : List (List ℕ) → Bool
are_names texts = nat_le (length texts) 32 && list_all is_name texts

-- the text is none of the names, which are compared as ASCII without case
abbrev pub is_no_name_of : List (List ℕ) → List ℕ → Bool
is_no_name_of names text = not (list_any (λ name. str_eq_ignore_ascii_case name text) names)

-- names of which none is among the firm names
unfoldable pub are_free_names : List (List ℕ) → List (List ℕ) → Bool
are_free_names firm texts = are_names texts && list_all (is_no_name_of firm) texts

-- a text of 1 to 255 bytes for each copy
unfoldable pub are_addresses : ℕ → List (List ℕ) → Bool
are_addresses copies texts = (length texts == copies) && list_all is_address texts

-- none, or one for each copy
unfoldable pub are_addresses_or_none : ℕ → List (List ℕ) → Bool
are_addresses_or_none copies texts = (length texts == 0) || are_addresses copies texts
