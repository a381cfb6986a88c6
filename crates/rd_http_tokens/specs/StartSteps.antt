-- The token at the front of a head, whatever the rules of names.
use Rattle.std.specs.Prelude.{ℕ, Bool, List}
use Rattle.rd_base.specs.declared.names.NameRules.{NameRules}
use Rattle.rd_base.specs.declared.values.Part.{Part}
use Rattle.rd_http_tokens.specs.declared.step.Found.{Found}
use Rattle.rd_http_tokens.specs.Tokens.{head_tokens, start_left}
use Rattle.rd_http_tokens.specs.Steps.{IsFound}

-- it was found at the beginning of a head
abbrev pub BeginsHead : Part → List ℕ → Found → Type 0
BeginsHead part text found = (names : NameRules) (whole : Bool) → IsFound names (λ all t. head_tokens names part all t) whole text found

-- it was found in a start line
abbrev pub StartsLine : Part → List ℕ → Found → Type 0
StartsLine part text found = (names : NameRules) (whole : Bool) → IsFound names (λ all t. start_left names part all t) whole text found
