-- What copies say together while some of them have not said all.
use Rattle.std.specs.Prelude.{ℕ, Bool, if◌then◌else◌, min, List, [], ◌∷◌, length, map}
use Rattle.rd_base.specs.declared.values.MaskLimits.{MaskLimits}
use Rattle.rd_base.specs.declared.verdict.Verdict.{Verdict}
use Rattle.rd_base.specs.Token.{Token}
use Rattle.rd_base.specs.Verdicts.{verdict_from, longest}

-- the tokens of a copy that are closed, and whether these are all
pub record Heard : Type 0 where
  pub tokens : List Token
  pub is_whole : Bool

-- the token lists of these copies
abbrev pub lists_of : List Heard → List (List Token)
lists_of copies = map (λ c. c.tokens) copies

-- of so many places, those at which each copy has its token or is whole
abbrev pub judged_of : ℕ → List Heard → ℕ
judged_of most [] = most
judged_of most (copy ∷ copies) = judged_of (if copy.is_whole then most else min most (length copy.tokens)) copies

-- the number of judged places, which come before all others
abbrev pub judged_places : List Heard → ℕ
judged_places copies = judged_of (longest (lists_of copies)) copies

-- the fault at the least judged place that has one; else Agreed with the places masked so far
abbrev pub early_verdict : MaskLimits → List Heard → Verdict
early_verdict most copies = verdict_from most (lists_of copies) 0 (judged_places copies)
