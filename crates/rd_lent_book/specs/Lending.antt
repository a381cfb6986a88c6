-- What is told of a book that is lent, and of who lends it.
use Rattle.std.specs.Prelude.{◌≡◌, ℕ, ◌+◌, List, [], ◌∷◌, ◌++◌, map, set, slice_get, Option, Some, None, option_map}
use mathlib.Core.List.{IsPrefix}
use Rattle.rd_base.specs.History.{Row}
use Rattle.rd_token_map.specs.BookCalls.{BookCall, Found, Learned}
use Rattle.rd_history.specs.Learns.{of_seat, learns_by}
use Rattle.rd_lent_book.specs.Answers.{WasAsked}
use Rattle.rd_lent_book.specs.Books.{found}
use Rattle.rd_lent_book.specs.Seats.{SeatView, learned, IsFresh, new_seat, new_seats}

-- the number of all seats of the book, its own one, and by number those that it may lend: none where one is lent
pub record BookView : Type 0 where
  pub seats : ℕ
  pub own : SeatView
  pub spare : List (Option SeatView)

-- an empty book that may lend so many seats
abbrev pub new_book : ℕ → BookView
new_book count = record { seats = count + 1; own = new_seat count; spare = map (λ seat. Some seat) (new_seats count) }

-- the calls that it tells
abbrev pub calls_told : Option BookView → Option (List BookCall)
calls_told told = option_map (λ book. book.own.calls) told

-- ---- how calls move it

-- its own seat alone has moved
abbrev pub with_own : BookView → SeatView → BookView
with_own book own = record book { own = own }

-- it looked a word up
pub record Looked (word : List ℕ) (answer : Option Row) (before after : BookView) : Type 0 where
  pub others : after ≡ with_own before after.own
  pub fresh : IsFresh before.seats before.own after.own
  pub calls : after.own.calls ≡ before.own.calls ++ Found word answer ∷ []
  pub found_by : answer ≡ found word after.own.learns

-- it learnt a row
pub record Learnt (row : Row) (before after : BookView) : Type 0 where
  pub others : after ≡ with_own before after.own
  pub fresh : IsFresh before.seats before.own after.own
  pub calls : after.own.calls ≡ before.own.calls ++ Learned row ∷ []

-- it was asked and told, and nothing else happened to it
pub record Asked (before after : BookView) : Type 0 where
  pub others : after ≡ with_own before after.own
  pub own : WasAsked before.seats before.own after.own

-- it lent the seat of this place, which has heeded its own
pub record Lends (before other after : BookView) : Type 0 where
  pub place : ℕ
  pub seat : SeatView
  pub had : slice_get before.spare place ≡ Some (Some seat)
  pub is : other ≡ record { seats = before.seats; own = other.own; spare = [] }
  pub fresh : IsFresh before.seats seat other.own
  pub calls : other.own.calls ≡ seat.calls
  pub heeds : IsPrefix before.own.learns other.own.learns
  pub left : after ≡ record { seats = before.seats; own = after.own; spare = set before.spare place None }
  pub own : IsFresh before.seats before.own after.own
  pub own_calls : after.own.calls ≡ before.own.calls

-- it took a seat back, which its own has heeded
pub record TakesBack (before other after : BookView) : Type 0 where
  pub seat : SeatView
  pub fresh : IsFresh before.seats other.own seat
  pub calls : seat.calls ≡ other.own.calls
  pub back : IsPrefix other.own.learns after.own.learns
  pub is : after ≡ record { seats = before.seats; own = after.own; spare = set before.spare other.own.number (Some seat) }
  pub own : IsFresh before.seats before.own after.own
  pub own_calls : after.own.calls ≡ before.own.calls

-- what its own seat has seen of a seat that it may lend is what that one learnt
abbrev pub IsHeard : BookView → Type 0
IsHeard book =
    (place : ℕ) (seat : SeatView) → slice_get book.spare place ≡ Some (Some seat)
    → IsPrefix (of_seat seat.number book.own.learns) (learns_by seat.number (learned seat.calls))

-- ---- the same of a book that may tell nothing

abbrev pub Moves : (BookView → BookView → Type 0) → Option BookView → Option BookView → Type 0
Moves P None None = Unit {0}
Moves P None (Some after) = ⊥
Moves P (Some before) None = ⊥
Moves P (Some before) (Some after) = P before after

-- a call with another book of its kind
abbrev pub MovesWith : (BookView → BookView → BookView → Type 0) → Option BookView → Option BookView → Option BookView → Type 0
MovesWith P None other after = (other ≡ None) × (after ≡ None)
MovesWith P (Some before) None after = ⊥
MovesWith P (Some before) (Some other) None = ⊥
MovesWith P (Some before) (Some other) (Some after) = P before other after
