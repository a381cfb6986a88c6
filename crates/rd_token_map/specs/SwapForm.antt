-- A form with the words of its values swapped for one copy. Forms are those of the URL Standard, section 5.
use Rattle.std.specs.Prelude.{ℕ, Bool, ◌==◌, ◌+◌, if◌then◌else◌, List, ◌++◌, take, drop, map, bytes_eq}
use Rattle.std.specs.List.{slice_split, join_with_byte, position_or_len, list_any}
use Rattle.std.specs.Str.{chars}
use Rattle.std.specs.Str.Lossy.{utf8_lossy}
use Rattle.form_urlencoded.specs.Form.{decode, byte_serialize}
use Rattle.rd_base.specs.History.{Row}
use Rattle.rd_base.specs.Swap.{swap_words}

-- the text has the character U+FFFD, which also stands for what isn't UTF-8
abbrev pub has_replacement : List ℕ → Bool
has_replacement text = list_any (λ c. c == 65533) (chars text)

-- a value stays where the text that it stands for stays, and is else written as a form writes the new text
abbrev pub written : List ℕ → List ℕ → List ℕ → List ℕ
written value text new = if bytes_eq new text then value else byte_serialize new

-- a value whose text has no U+FFFD, with the words of its text swapped
abbrev pub swap_value : ℕ → List Row → List ℕ → List ℕ
swap_value copy rows value =
    let text = utf8_lossy (decode value) in
    if has_replacement text then value else written value text (swap_words copy rows text)

-- how many bytes of a pair stand up to and with its first `=`; all where it has none
abbrev pub key_len : List ℕ → ℕ
key_len pair = position_or_len (λ b. b == 61) pair + 1

-- a pair's value is what stands behind its first `=`
abbrev pub swap_pair : ℕ → List Row → List ℕ → List ℕ
swap_pair copy rows pair = take (key_len pair) pair ++ swap_value copy rows (drop (key_len pair) pair)

-- pairs stand between `&`
abbrev pub swap_form : ℕ → List Row → List ℕ → List ℕ
swap_form copy rows text = join_with_byte 38 (map (swap_pair copy rows) (slice_split (λ b. b == 38) text))
