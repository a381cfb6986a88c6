use Rattle.std.proofs.Common.{◌≡◌, ◌<◌, ℕ, true, slice_index}
use Rattle.rd_http_frame.specs.Fronts.{is_break}
use Rattle.rd_operator.proofs.asked.front_len.Given as goal

abbrev pub invariant-bytes : goal.invariant-bytes
invariant-bytes l = (k : ℕ) → k < l.i → is_break (slice_index l.bytes k) ≡ true
