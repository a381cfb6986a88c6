use Rattle.std.proofs.Common.{◌≡◌, ◌≤◌, ◌-◌, ◌++◌, length, drop}
use Rattle.rd_token_map.specs.SwapForm.{swap_form}
use Rattle.rd_token_map.proofs.form.swap_form.Given as goal

abbrev pub invariant-loop-at : goal.invariant-loop-at
invariant-loop-at l = record {
  within : l.at ≤ length l.text;
  same : swap_form l.copy (l.own ++ l.told) l.text ≡ l.out ++ swap_form l.copy (l.own ++ l.told) (drop l.at l.text);
}

abbrev pub decreases-loop-at : goal.decreases-loop-at
decreases-loop-at l = length l.text - l.at
