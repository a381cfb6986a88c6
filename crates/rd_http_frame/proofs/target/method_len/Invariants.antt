use Rattle.std.proofs.Common.{◌≡◌, ◌<◌, ℕ, true, slice_index}
use Rattle.httparse.specs.Grammar.{is_token_byte}
use Rattle.rd_http_frame.proofs.target.method_len.Given as goal

abbrev pub invariant-bytes : goal.invariant-bytes
invariant-bytes l = (k : ℕ) → k < l.i → is_token_byte (slice_index l.text k) ≡ true
