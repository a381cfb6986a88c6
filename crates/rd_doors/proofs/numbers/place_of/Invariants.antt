use Rattle.std.proofs.Common.{◌≡◌, ◌≢◌, ℕ, ◌<◌, get_or}
use Rattle.rd_doors.proofs.numbers.place_of.Given as goal

abbrev pub invariant-loop-one : goal.invariant-loop-one
invariant-loop-one l = (l.place ≡ l.one-index) × ((j : ℕ) → j < l.place → get_or l.fn.numbers j 0 ≢ l.fn.number)
