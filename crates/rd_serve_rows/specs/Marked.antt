-- What links here tell.
use Rattle.std.specs.Prelude.{◌≡◌, ℕ, None, false, List, map, All}
use Rattle.rd_base.specs.Words.{below}
use Rattle.rd_base.specs.Outside.{SinkTold}
use Rattle.rd_base.specs.Sources.{SourceTold}
use Rattle.rd_serve_rows.specs.declared.links.WaitingSource.{WaitingSource}
use Rattle.rd_serve_rows.specs.declared.links.CountingSink.{CountingSink}

abbrev pub source_told : {R : Type 0} → WaitingSource R → SourceTold
source_told s = record { mark = record { first = s.first; second = s.second }; faults = 0; given = None }

abbrev pub sink_told : CountingSink → SinkTold
sink_told k = record { mark = record { first = k.first; second = k.second }; faults = 0; held = None; is_closed = k.is_closed }

-- they have the marks of the first so many links of this visit
abbrev pub AreSources : {R : Type 0} → ℕ → ℕ → List (WaitingSource R) → Type 0
AreSources number count sources = map (λ s. s.mark) (map source_told sources) ≡ map (λ l. record { first = number; second = l }) (below count)

-- and are open
pub record AreSinks (number count : ℕ) (sinks : List CountingSink) : Type 0 where
  pub marks : map (λ k. k.mark) (map sink_told sinks) ≡ map (λ l. record { first = number; second = l }) (below count)
  pub open_sinks : All (λ k. k.is_closed ≡ false) (map sink_told sinks)
