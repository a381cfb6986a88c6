use Rattle.std.proofs.Common.{◌≡◌, ◌<◌, ℕ, true, slice_index}
use Rattle.std.specs.Char.{is_ascii_hexdigit}
use Rattle.rd_http_frame.proofs.chunk.digits_len.Given as goal

abbrev pub invariant-bytes : goal.invariant-bytes
invariant-bytes l = (k : ℕ) → k < l.i → is_ascii_hexdigit (slice_index l.bytes k) ≡ true
