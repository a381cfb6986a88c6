use Rattle.std.proofs.Common.{◌≡◌, vec_len}
use Rattle.rd_shared_book.proofs.lender.take_first.Given as goal

abbrev pub invariant-loop-place : goal.invariant-loop-place
invariant-loop-place g l = record { items : l.slots.items ≡ l.fn.slots.items; count : vec_len l.slots ≡ vec_len l.fn.slots }
