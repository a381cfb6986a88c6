-- What a copy of the book keeps, by the list of learns that it stands for.
use Rattle.std.specs.Prelude.{◌≡◌, ◌<◌, ℕ, ◌+◌, ◌==◌, cond, List, [], ◌∷◌, ◌++◌, length, slice_get, Some}
use Rattle.rd_base.specs.History.{Row}
use Rattle.rd_history.specs.declared.learn.Learn.{Learn}
use Rattle.rd_history.specs.Learns.{entry, of_seat, AreBelow}
use Rattle.rd_lent_book.specs.Books.{book_after}

-- for each seat the number of its learns
pub record AreCounts (seats : ℕ) (counts : List ℕ) (learns : List Learn) : Type 0 where
  pub count : length counts ≡ seats
  pub each : (seat : ℕ) → seat < seats → slice_get counts seat ≡ Some (length (of_seat seat learns))

-- what a copy of the book keeps is that of one list of learns
pub record IsBook (seats : ℕ) (rows : List Row) (counts : List ℕ) (learns : List Learn) : Type 0 where
  pub kept : rows ≡ book_after learns
  pub counted : AreCounts seats counts learns
  pub below : AreBelow seats learns

-- a list that ends in this learn, of a seat of the book
pub record EndsIn (seats seat : ℕ) (row : Row) (after : List Learn) : Type 0 where
  pub before : List Learn
  pub number : ℕ
  pub is : after ≡ before ++ entry seat number row ∷ []
  pub below : seat < seats

-- the longer list, where it is one longer
abbrev pub follow : List Learn → List Learn → List Learn
follow learns after = cond (length after == length learns + 1) after learns
