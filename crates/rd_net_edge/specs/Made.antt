-- Links made so far.
use Rattle.std.specs.Prelude.{◌≡◌, ℕ, None, List, map, All, false}
use Rattle.rd_base.specs.Words.{below}
use Rattle.rd_base.specs.Outside.{SinkTold}
use Rattle.rd_base.specs.Sources.{SourceTold}
use Rattle.rd_doors.specs.Visits.{is_unasked, is_empty}
use Rattle.rd_net_edge.specs.declared.links.TcpSource.{TcpSource}
use Rattle.rd_net_edge.specs.declared.links.TcpSink.{TcpSink}

abbrev pub source_told : TcpSource → SourceTold
source_told s = record { mark = record { first = s.first; second = s.second }; faults = s.faults; given = None }

abbrev pub sink_told : {R : Type 0} → TcpSink R → SinkTold
sink_told k = record { mark = record { first = k.first; second = k.second }; faults = k.faults; held = None; is_closed = k.is_closed }

-- the links below this one are there, in their order, and none was used
pub record AreMade {R : Type 0} (number link : ℕ) (sources : List TcpSource) (sinks : List (TcpSink R)) : Type 0 where
  pub source_marks : map (λ s. s.mark) (map source_told sources) ≡ map (λ l. record { first = number; second = l }) (below link)
  pub sink_marks : map (λ k. k.mark) (map sink_told sinks) ≡ map (λ l. record { first = number; second = l }) (below link)
  pub unasked : All is_unasked (map source_told sources)
  pub empty : All is_empty (map sink_told sinks)
  pub open_sinks : All (λ k. k.is_closed ≡ false) (map sink_told sinks)
