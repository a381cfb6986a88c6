-- The rule of a list that only grows, and what its step tells.
use Rattle.std.specs.Prelude.{ℕ, ◌≡◌, ◌==◌, true, List, [], ◌∷◌, ◌++◌, length, MatchBool}
use Rattle.logbook.specs.Pages.{Cell, Step, View, Book, Named}

-- the first word is the length of the list. A book has two words, of which this one leaves the second at 0
abbrev pub IsKept : {E : Type 0} → List Cell → List E → Type 0
IsKept cells log = cells ≡ (length log, true) ∷ (0, true) ∷ []

abbrev pub length_of : Book → Named
length_of b = record { tracked = true; key = 0; book = b }

-- the entry was appended to all that had been seen; or the list was longer
abbrev pub AppendsTo : {E : Type 0} → Step E → View E ℕ → ℕ → View E ℕ → Type 0
AppendsTo s v found w = MatchBool (found == s.old) (w.0 ≡ v.0 ++ s.ask ∷ []) (length w.0 ≡ found)
