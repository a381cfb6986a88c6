-- Words for the tokens that are cut of what is due.
use Rattle.std.specs.Prelude.{ℕ, Bool, List, ◌++◌, Option, Some, None}
use Rattle.rd_base.specs.Token.{Token}
use Rattle.rd_dialect.specs.declared.due.Due.{Due}
use Rattle.rd_dialect.specs.Grammar.{Grammar}

-- the tokens that the first cursor has before it
abbrev pub left_due : Grammar → Due → List ℕ → Bool → List Token
left_due g due flat whole = g.left due.part due.phase due.note flat whole g.first_cursor

-- a list in front of a list that is there
abbrev pub behind_some : {A : Type 0} → List A → Option (List A) → Option (List A)
behind_some xs None = None
behind_some xs (Some ys) = Some (xs ++ ys)
