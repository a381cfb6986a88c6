use Rattle.std.proofs.Common.{◌≡◌, ◌++◌, drop}
use Rattle.std.specs.List.{flat_map}
use Rattle.rd_core.proofs.plan.rows_in.Given as goal

abbrev pub invariant-loop-exchange : goal.invariant-loop-exchange
invariant-loop-exchange l = l.rows ++ flat_map (λ x. x.replies.rows) (drop l.exchange-index l.done) ≡ flat_map (λ x. x.replies.rows) l.done
