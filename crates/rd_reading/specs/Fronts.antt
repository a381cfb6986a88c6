-- Links that have the front of one list open.
use Rattle.std.specs.Prelude.{ℕ, ◌≡◌, ◌≤◌, Bool, List, length, take, nat_lt, nat_le, ◌&&◌, bytes_eq, if◌then◌else◌}
use Rattle.std.specs.List.{All, list_all}
use Rattle.rd_rules.specs.Exchange.{Open}

-- these bytes are the first of that list
abbrev pub IsFrontOf : List ℕ → List ℕ → Type 0
IsFrontOf bytes top = bytes ≡ take (length bytes) top

-- what each link has open is a front of this list
abbrev pub AreFrontsOf : List ℕ → List Open → Type 0
AreFrontsOf top opens = All (λ o. IsFrontOf o.bytes top) opens

-- of any two links, what is open of the one that has no more is the front of what is open of the other
abbrev pub AreFronts : List Open → Type 0
AreFronts opens = All (λ o. All (λ p. length o.bytes ≤ length p.bytes → IsFrontOf o.bytes p.bytes) opens) opens

-- the longer of two lists; the first where they are as long
abbrev pub longer : List ℕ → List ℕ → List ℕ
longer xs ys = if nat_lt (length xs) (length ys) then ys else xs

-- these bytes are the first of that list, as a test
abbrev pub is_front_of : List ℕ → List ℕ → Bool
is_front_of bytes top = nat_le (length bytes) (length top) && bytes_eq bytes (take (length bytes) top)

abbrev pub are_fronts_of : List ℕ → List Open → Bool
are_fronts_of top opens = list_all (λ o. is_front_of o.bytes top) opens
