-- What a seat knows, and how its calls move it.
use Rattle.std.specs.Prelude.{◌≡◌, ◌<◌, ℕ, zero, suc, List, [], ◌∷◌, ◌++◌}
use mathlib.Core.List.{IsPrefix}
use Rattle.rd_base.specs.History.{Row}
use Rattle.rd_token_map.specs.BookCalls.{BookCall, Found, Learned}
use Rattle.rd_history.specs.declared.learn.Learn.{Learn}
use Rattle.rd_history.specs.Learns.{of_seat, learns_by, AreBelow}

-- its number, the list of learns that it saw last, and its calls so far
pub record SeatView : Type 0 where
  pub number : ℕ
  pub learns : List Learn
  pub calls : List BookCall

-- the rows that it learnt
abbrev pub learned : List BookCall → List Row
learned [] = []
learned (Found word answer ∷ calls) = learned calls
learned (Learned row ∷ calls) = row ∷ learned calls

-- its list holds, of this seat, exactly what it learnt, each once; and of others only seats of the book
pub record HoldsOwn (seats : ℕ) (seat : SeatView) : Type 0 where
  pub own : of_seat seat.number seat.learns ≡ learns_by seat.number (learned seat.calls)
  pub below : AreBelow seats seat.learns
  pub number : seat.number < seats

-- its list goes on from the one that it saw before
pub record IsFresh (seats : ℕ) (before after : SeatView) : Type 0 where
  pub number : after.number ≡ before.number
  pub goes_on : IsPrefix before.learns after.learns
  pub holds : HoldsOwn seats after

-- a seat that has seen nothing yet
abbrev pub new_seat : ℕ → SeatView
new_seat number = record { number = number; learns = []; calls = [] }

-- so many of them, numbered from 0
abbrev pub new_seats : ℕ → List SeatView
new_seats zero = []
new_seats (suc count) = new_seats count ++ new_seat count ∷ []
