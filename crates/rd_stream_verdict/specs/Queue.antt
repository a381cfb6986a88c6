-- Tokens that wait in one buffer.
use Rattle.std.specs.Prelude.{ℕ, ◌≡◌, ◌≤◌, ◌+◌, List, [], ◌∷◌, length, take, drop}
use Rattle.rd_base.specs.Token.{Token, token}
use Rattle.rd_stream_verdict.specs.declared.queue.Cut.{Cut}

-- bytes cut into tokens
abbrev pub tokens_of : List ℕ → List Cut → List Token
tokens_of flat [] = []
tokens_of flat (cut ∷ cuts) = token cut.kind (take cut.len flat) ∷ tokens_of (drop cut.len flat) cuts

-- the bytes that the cuts take
abbrev pub cut_bytes : List Cut → ℕ
cut_bytes [] = 0
cut_bytes (cut ∷ cuts) = cut.len + cut_bytes cuts

-- the tokens take all bytes past the first so many, which are no more than they
pub record IsFilled (flat : List ℕ) (start : ℕ) (cuts : List Cut) : Type 0 where
  pub all : start + cut_bytes cuts ≡ length flat
  pub least : start ≤ cut_bytes cuts

-- the bytes of tokens
abbrev pub bytes_in : List Token → ℕ
bytes_in [] = 0
bytes_in (t ∷ tokens) = length t.text + bytes_in tokens
