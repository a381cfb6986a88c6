-- What a row is looked up by before its bytes are compared.
use Rattle.std.specs.Prelude.{ℕ, ◌-◌, nat_lt, List, [], ◌∷◌, length, slice_index, if◌then◌else◌}
use Rattle.std.specs.Int.{w64, from_le_bytes}

-- the byte that stands so far from the end
abbrev pub from_end : List ℕ → ℕ → ℕ
from_end word place = slice_index word (length word - place)

abbrev pub last_eight : List ℕ → List ℕ
last_eight word =
    from_end word 8 ∷ from_end word 7 ∷ from_end word 6 ∷ from_end word 5 ∷ from_end word 4 ∷ from_end word 3
    ∷ from_end word 2 ∷ from_end word 1 ∷ []

abbrev pub key_of : List ℕ → ℕ
key_of word = if nat_lt (length word) 16 then 0 else from_le_bytes w64 (last_eight word)
