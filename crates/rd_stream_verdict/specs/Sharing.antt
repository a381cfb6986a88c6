-- What waits of copies of which the first so many share the first token that waits.
use Rattle.std.specs.Prelude.{ℕ, zero, suc, ◌≡◌, ◌≤◌, Bool, true, List, [], ◌∷◌, length}
use Rattle.std.specs.List.{list_all}
use Rattle.rd_base.specs.Token.{Token}
use Rattle.rd_stream_verdict.specs.Kept.{CopyKept}
use Rattle.rd_stream_verdict.specs.Heads.{is_behind}

-- a token waits before the others
abbrev pub with_first : Token → CopyKept → CopyKept
with_first t c = record { fed = c.fed; waiting = t ∷ c.waiting; is_whole = c.is_whole }

-- the first so many copies have this token before the others
abbrev pub sharing : ℕ → Token → List CopyKept → List CopyKept
sharing zero t copies = copies
sharing (suc sharers) t [] = []
sharing (suc sharers) t (c ∷ copies) = with_first t c ∷ sharing sharers t copies

abbrev pub all_behind : List CopyKept → Bool
all_behind copies = list_all is_behind copies

-- no more copies share a token than there are; where it is said that only the shared one waits, no copy is closed and
-- nothing else waits
pub record IsShared (sharers : ℕ) (only_shared : Bool) (copies : List CopyKept) : Type 0 where
  pub most : sharers ≤ length copies
  pub only : only_shared ≡ true → all_behind copies ≡ true
