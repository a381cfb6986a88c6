-- How a reader runs.
use Rattle.std.specs.Prelude.{◌≡◌}
use Rattle.rd_base.specs.Sources.{SourceTold}
use Rattle.rd_start.specs.Start.{KeepsStart}
use Rattle.rd_start.specs.declared.reading.Handed.{Handed}
use Rattle.rd_start.specs.declared.reading.Way.{Way}
use Rattle.rd_start.specs.declared.reading.Way.TheVariants.{Running, Done}

module _ {S R : Type 0} (tells : S → SourceTold) where
  -- its thread promises what was handed to it, or it gave that
  abbrev pub IsWay : Handed S R → Way S R → Type 0
  IsWay handed (Running h) = (h.promise.source.value ≡ handed.source.value) × (h.promise.pass.value ≡ handed.pass.value)
  IsWay handed (Done s) = KeepsStart tells handed.source.value handed.pass.value s
