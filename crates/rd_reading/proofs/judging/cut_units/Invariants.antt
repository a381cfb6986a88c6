use Rattle.std.proofs.Common.{◌≡◌, take}
use Rattle.rd_rules.specs.Exchange.{token_lists}
use Rattle.rd_reading.proofs.judging.cut_units.Given as goal

abbrev pub invariant-loop-unit : goal.invariant-loop-unit
invariant-loop-unit g l =
    let grammar = g.D.Dialect.grammar l.dialect in
    record {
      copies : l.copies ≡ token_lists grammar l.due (take l.unit-index l.units);
    }
