use Rattle.std.proofs.Common.{◌≤◌, ◌-◌, length}
use Rattle.rd_http_tokens.specs.Steps.{Goes}
use Rattle.rd_http_tokens.proofs.step.line_step.Given as goal

abbrev pub invariant-loop-at : goal.invariant-loop-at
invariant-loop-at l = record { within : l.at ≤ length l.text; goes : Goes l.names l.fn.stated l.said l.text l.at }

abbrev pub decreases-loop-at : goal.decreases-loop-at
decreases-loop-at l = length l.text - l.at
