-- The own rows that requests of one step are looked up in.
use Rattle.std.specs.Prelude.{ℕ, List, [], ◌∷◌, length, slice_index_or, Option, unwrap_or}
use Rattle.rd_base.specs.History.{Row}
use Rattle.rd_rules.specs.Given.{learnt}
use Rattle.rd_reading.specs.declared.exchange.DoneExchange.{DoneExchange}

-- the own rows before a step, and after each of its exchanges
pub record OwnsSeen : Type 0 where
  pub own : List Row
  pub after : List (List Row)

-- the own rows, or those after what was learnt since
abbrev pub latest_of : List Row → Option (List Row) → List Row
latest_of own later = unwrap_or later own

-- the own rows after so many exchanges
abbrev pub own_at : List Row → List (List Row) → ℕ → List Row
own_at own after count = slice_index_or (own ∷ after) count own

-- the own rows after all
abbrev pub last_own : OwnsSeen → List Row
last_own seen = own_at seen.own seen.after (length seen.after)

-- the own rows after each of these exchanges
abbrev pub owns_after : List Row → List DoneExchange → List (List Row)
owns_after own [] = []
owns_after own (x ∷ xs) = learnt own x.replies.rows ∷ owns_after (learnt own x.replies.rows) xs
