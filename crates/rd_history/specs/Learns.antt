-- The list of learns, and what of it is one seat's.
use Rattle.std.specs.Prelude.{◌<◌, ℕ, ◌==◌, Bool, List, [], ◌∷◌, ◌++◌, length, filter, fold, All}
use Rattle.rd_base.specs.History.{Row}
use Rattle.rd_history.specs.declared.learn.Learn.{Learn}

-- a seat's learn of this number
abbrev pub entry : ℕ → ℕ → Row → Learn
entry seat number row = record { seat = seat; number = number; row = row }

abbrev pub is_of : ℕ → Learn → Bool
is_of seat learn = learn.seat == seat

-- what of a list is this seat's
abbrev pub of_seat : ℕ → List Learn → List Learn
of_seat seat learns = filter (is_of seat) learns

-- the learns of a seat that learnt these rows and no others: each once, numbered from 0
abbrev pub with_row : ℕ → List Learn → Row → List Learn
with_row seat learns row = learns ++ entry seat (length learns) row ∷ []

abbrev pub learns_by : ℕ → List Row → List Learn
learns_by seat rows = fold (with_row seat) [] rows

-- each is of a seat below this number
abbrev pub AreBelow : ℕ → List Learn → Type 0
AreBelow seats learns = All (λ learn. learn.seat < seats) learns
