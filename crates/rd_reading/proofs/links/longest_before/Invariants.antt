use Rattle.std.proofs.Common.{◌≤◌, ◌<◌, List, ℕ, length}
use Rattle.std.specs.Prelude.{slice_index_or}
use Rattle.rd_rules.specs.Exchange.{Open}
use Rattle.rd_reading.specs.Extents.{all_cut_back}
use Rattle.rd_reading.specs.Fronts.{IsFrontOf, AreFrontsOf}
use Rattle.rd_reading.proofs.links.longest_before.Given as goal

abbrev pub invariant-loop-place : goal.invariant-loop-place
invariant-loop-place l =
    let olds = all_cut_back l.extents l.opens in
    record {
      front : (whole : List ℕ) → AreFrontsOf whole olds → IsFrontOf l.top whole;
      most : (k : ℕ) (d : Open) → k < l.place → length (slice_index_or olds k d).bytes ≤ length l.top;
    }
