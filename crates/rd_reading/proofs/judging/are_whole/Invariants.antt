use Rattle.std.proofs.Common.{◌≡◌, drop}
use Rattle.std.specs.Prelude.{is_some}
use Rattle.rd_rules.specs.Exchange.{units}
use Rattle.rd_reading.proofs.judging.are_whole.Given as goal

abbrev pub invariant-loop-one : goal.invariant-loop-one
invariant-loop-one g l =
    let grammar = g.D.Dialect.grammar l.dialect in
    is_some (units grammar l.due l.opens) ≡ is_some (units grammar l.due (drop l.one-index l.opens))
