-- How many places are masked in requests that the engine keeps.
use Rattle.std.specs.Prelude.{ℕ, ◌+◌, Bool, true, false, List, [], ◌∷◌, sum_by, Option, Some, None}
use Rattle.rd_reading.specs.declared.exchange.Request.{Request}
use Rattle.rd_reading.specs.declared.exchange.DoneExchange.{DoneExchange}

abbrev pub masked_out : Option Request → ℕ
masked_out (Some request) = request.masked
masked_out None = 0

-- in all of these, or in all but the first
abbrev pub masked_asked : Bool → List DoneExchange → Option Request → ℕ
masked_asked false done out = sum_by (λ x. x.request.masked) done + masked_out out
masked_asked true [] out = 0
masked_asked true (x ∷ done) out = sum_by (λ x. x.request.masked) done + masked_out out
