-- What a run of calls on one seat was answered by.
use Rattle.std.specs.Prelude.{◌≡◌, ℕ, List, [], ◌∷◌, ◌++◌, Option}
use mathlib.Core.List.{IsPrefix}
use Rattle.rd_base.specs.History.{Row}
use Rattle.rd_token_map.specs.BookCalls.{BookCall, Found, Learned}
use Rattle.rd_history.specs.declared.learn.Learn.{Learn}
use Rattle.rd_history.specs.Learns.{of_seat, learns_by}
use Rattle.rd_lent_book.specs.Books.{found}
use Rattle.rd_lent_book.specs.Seats.{SeatView, learned, HoldsOwn}

module _ (seat : ℕ) (whole : List Learn) where
  -- the answer to a word, by one list of learns
  pub record IsAnswer (had : List Row) (before : List Learn) (word : List ℕ) (answer : Option Row) (list : List Learn) : Type 0 where
    -- it is that of the book after this list
    pub is : answer ≡ found word list
    -- the list holds, of this seat, exactly the rows that it has learnt, each once
    pub own : of_seat seat list ≡ learns_by seat had
    -- it goes on from the list of the answer before, and begins the whole one
    pub goes_on : IsPrefix before list
    pub within : IsPrefix list whole

  -- the answers to the calls of a seat that has learnt these rows, from a list on
  abbrev pub AreAnswers : List Row → List Learn → List BookCall → Type 0
  AreAnswers had before [] = Unit {0}
  AreAnswers had before (Learned row ∷ calls) = AreAnswers (had ++ row ∷ []) before calls
  AreAnswers had before (Found word answer ∷ calls) =
      (list : List Learn) × IsAnswer had before word answer list × AreAnswers had list calls

-- a seat was asked and told, and nothing else happened to it
pub record WasAsked (seats : ℕ) (before after : SeatView) : Type 0 where
  pub number : after.number ≡ before.number
  pub calls : List BookCall
  pub are : after.calls ≡ before.calls ++ calls
  pub answers : AreAnswers before.number after.learns (learned before.calls) before.learns calls
  pub goes_on : IsPrefix before.learns after.learns
  pub holds : HoldsOwn seats before → HoldsOwn seats after
