use Rattle.std.proofs.Common.{◌≡◌, ◌<◌, ℕ, true, slice_index}
use Rattle.rd_operator.specs.Asked.{is_word_byte}
use Rattle.rd_operator.proofs.asked.word_len.Given as goal

abbrev pub invariant-bytes : goal.invariant-bytes
invariant-bytes l = (k : ℕ) → k < l.i → is_word_byte (slice_index l.text k) ≡ true
