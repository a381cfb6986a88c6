use Rattle.std.proofs.Common.{◌≡◌, ◌≤◌, ◌<◌, ℕ, Some, vec_len}
use Rattle.std.specs.Prelude.{slice_get}
use mathlib.Core.List.{IsPrefix}
use Rattle.rd_history.specs.Learns.{of_seat, learns_by}
use Rattle.rd_lent_book.specs.Seats.{SeatView, learned}
use Rattle.rd_shared_book.proofs.lender.LenderLentBook.be_heeded.Given as goal

abbrev pub invariant-loop-place : goal.invariant-loop-place
invariant-loop-place g l = record {
  count : vec_len l.slots ≡ vec_len l.initial.slots;
  goes_on : IsPrefix l.initial.seat.learns l.seat.learns;
  still : (n : ℕ) → l.place ≤ n → slice_get l.slots.items n ≡ slice_get l.initial.slots.items n;
  heard : (n : ℕ) (seat : SeatView) → n < l.place → slice_get l.initial.slots.items n ≡ Some (Some seat)
      → IsPrefix (of_seat seat.number l.initial.seat.learns) (learns_by seat.number (learned seat.calls));
}
