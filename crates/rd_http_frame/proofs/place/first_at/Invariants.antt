use Rattle.std.proofs.Common.{◌≡◌, ◌≤◌, ◌<◌, ℕ, false, slice_index, ◌==◌}
use Rattle.rd_http_frame.proofs.place.first_at.Given as goal

abbrev pub invariant-bytes : goal.invariant-bytes
invariant-bytes l = (l.at ≤ l.i) × ((k : ℕ) → l.at ≤ k → k < l.i → (slice_index l.bytes k == l.stop) ≡ false)
