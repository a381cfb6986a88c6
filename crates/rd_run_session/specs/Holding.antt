-- The book that a runner holds between its sessions.
use Rattle.std.specs.Prelude.{◌≡◌, Option, Some, None}
use Rattle.rd_lent_book.specs.Lending.{BookView}

-- it holds one
abbrev pub IsHeld : {B : Type 0} → Option B → Type 0
IsHeld {B} held = (book : B) × (held ≡ Some book)

-- what that tells
abbrev pub book_held : {B : Type 0} → (B → Option BookView) → Option B → Option BookView
book_held told None = None
book_held told (Some book) = told book
