-- The calls that a book of rows tells of.
use Rattle.std.specs.Prelude.{◌≡◌, ℕ, true, List, [], ◌∷◌, ◌++◌, Option, Some, option_map, Result, OnOk, OnErr}
use Rattle.rd_base.specs.History.{Row}
use Rattle.rd_base.specs.Swap.{shows}

-- a word that was looked up, with the answer, or a row that was learnt
pub data BookCall : Type 0 where
  Found : List ℕ → Option Row → BookCall
  Learned : Row → BookCall

-- what was told, and then one call; what tells nothing goes on so
abbrev pub told_call : Option (List BookCall) → BookCall → Option (List BookCall)
told_call told call = option_map (λ calls. calls ++ call ∷ []) told

-- a call that tells the book of a row; a refused one changes nothing that is told
pub record Learns {E : Type 0} (row : Row) (result : Result (Unit {0}) E) (before after : Option (List BookCall)) : Type 0 where
  pub ok : OnOk result (after ≡ told_call before (Learned row))
  pub err : OnErr result (after ≡ before)

-- a call that looks a word up: an answer shows the word
pub record Finds (word : List ℕ) (answer : Option Row) (before after : Option (List BookCall)) : Type 0 where
  pub shown : (row : Row) → answer ≡ Some row → shows word row ≡ true
  pub told : after ≡ told_call before (Found word answer)
