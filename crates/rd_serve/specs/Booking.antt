-- What stands of a serving's book while it goes on.
use Rattle.std.specs.Prelude.{◌≡◌, ℕ, ◌+◌, List, [], ◌∷◌, ◌++◌, length, map, slice_get, Option, Some, None}
use Rattle.rd_base.specs.declared.values.Side.{Side}
use Rattle.rd_base.specs.Outside.{SinkTold}
use Rattle.rd_base.specs.Sources.{SourceTold}
use Rattle.rd_doors.specs.Visits.{EndsTold, RunTold, Entry, Gave, ends_told}
use Rattle.rd_doors.specs.Calls.{DoorsTold}
use Rattle.rd_lent_book.specs.Lending.{BookView, Asked, Moves, calls_told, new_book}
use Rattle.rd_lent_book.specs.Seats.{SeatView, HoldsOwn, learned}
use Rattle.rd_runner.specs.Runs.{Setup}
use Rattle.rd_run_session.specs.Asking.{CameWith}
use Rattle.rd_run_session.specs.declared.left.SessionLeft.{SessionLeft}
use Rattle.rd_serve.specs.Books.{SeatRun, IsBooked, HoldsRuns, rows_on}
use Rattle.rd_serve.specs.Notes.{Pairs, runs}
use Rattle.rd_serve.specs.Sessions.{Each, times}
use Rattle.rd_serve.specs.declared.session.Session.{Session}

-- a session that runs, by the side and the links of its visit and the book that it was lent
pub record Lent : Type 0 where
  pub side : Side
  pub ends : EndsTold
  pub book : Option BookView

-- the number of a book's own seat
abbrev pub seat_in : Option BookView → ℕ
seat_in None = 0
seat_in (Some book) = book.own.number

abbrev pub seat_lent : Lent → ℕ
seat_lent lent = seat_in lent.book

abbrev pub lents : {S K P C T B R : Type 0} → (S → SourceTold) → (K → SinkTold) → List (Session S K P C T B R) → List Lent
lents source sink sessions =
    map (λ s. record { side = s.side; ends = ends_told source sink s.ends.value; book = s.handle.promise.runner.value.book }) sessions

-- a seat has learnt what the runs on it learnt, and has seen what was learnt before this visit
pub record StandsBy {R : Type 0} (told : List (Entry (SessionLeft R))) (all : List SeatRun) (side : Side) (ends : EndsTold) (seat : SeatView) : Type 0 where
  pub rows : learned seat.calls ≡ rows_on seat.number all
  pub before : List (Entry (SessionLeft R))
  pub between : List (Entry (SessionLeft R))
  pub place : before ++ Gave side ends ∷ between ≡ told
  pub first : List SeatRun
  pub second : List SeatRun
  pub are : first ++ second ≡ all
  pub first_count : length first ≡ length (runs before)
  pub second_count : length second ≡ length (runs between)
  pub holds : HoldsRuns first seat.learns

-- a session runs on a seat that was lent
pub record IsLent {R : Type 0} (told : List (Entry (SessionLeft R))) (all : List SeatRun) (book : BookView) (lent : Lent) : Type 0 where
  pub view : BookView
  pub is : lent.book ≡ Some view
  pub out : slice_get book.spare view.own.number ≡ Some None
  pub own : HoldsOwn view.seats view.own
  pub stands : StandsBy told all lent.side lent.ends view.own

-- the seats of a book have learnt what the runs on them learnt
pub record AreSeats (all : List SeatRun) (book : BookView) : Type 0 where
  pub seats : book.seats ≡ length book.spare + 1
  pub number : book.own.number ≡ length book.spare
  pub own : HoldsOwn book.seats book.own
  pub rows : learned book.own.calls ≡ rows_on book.own.number all
  pub spare : (n : ℕ) (seat : SeatView) → slice_get book.spare n ≡ Some (Some seat) → (seat.number ≡ n) × (learned seat.calls ≡ rows_on n all)

-- the runs that came back so far, the seats, and the sessions that run
pub record Booked (S : Type 0) {R : Type 0} (setup : Setup) (told : List (Entry (SessionLeft R))) (now : Option BookView) (out : List Lent) : Type 0 where
  pub book : BookView
  pub is : now ≡ Some book
  pub all : List SeatRun
  pub each : Pairs (IsBooked S setup told book.own.learns all) (runs told) all
  pub holds : HoldsRuns all book.own.learns
  pub seats : AreSeats all book
  pub lent : Each (IsLent told all book) out
  pub once : (n : ℕ) → slice_get book.spare n ≡ Some None → times n (map seat_lent out) ≡ 1

-- the same beside what the doors tell, where the book was new at first
abbrev pub AreBooked : (S : Type 0) {R : Type 0} → Setup → Option BookView → DoorsTold (SessionLeft R) → Option BookView → List Lent → Type 0
AreBooked S {R} setup first doors now out =
    (others : ℕ) → first ≡ Some (new_book others) → (told : List (Entry (SessionLeft R))) → doors.told ≡ Some told → Booked S setup told now out

-- what a session's thread promises of the book that it was lent
pub record KeepsBook (S : Type 0) {R : Type 0} (setup : Setup) (side : Side) (ends : EndsTold) (run : RunTold (SessionLeft R)) (before after : Option BookView) : Type 0 where
  pub came : CameWith S setup side ends run (calls_told before) (calls_told after)
  pub asked : Moves Asked before after
