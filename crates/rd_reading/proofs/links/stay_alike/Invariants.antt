use Rattle.std.proofs.Common.{◌<◌, ℕ}
use Rattle.std.specs.Prelude.{slice_index_or}
use Rattle.rd_rules.specs.Exchange.{Open}
use Rattle.rd_reading.specs.Extents.{all_cut_back}
use Rattle.rd_reading.specs.Fronts.{IsFrontOf, AreFrontsOf}
use Rattle.rd_reading.proofs.links.stay_alike.Given as goal

abbrev pub invariant-loop-place : goal.invariant-loop-place
invariant-loop-place l = record {
  before : AreFrontsOf l.top (all_cut_back l.extents l.opens);
  after : (k : ℕ) (d : Open) → k < l.place → IsFrontOf (slice_index_or l.opens k d).bytes l.top;
}
