use Rattle.std.proofs.Common.{◌≡◌, ◌≤◌, drop, length, true}
use Rattle.std.specs.List.{All}
use Rattle.rd_dialect.specs.Due.{IsDue}
use Rattle.rd_rules.specs.Exchange.{LinkUnit, units}
use Rattle.rd_reading.specs.Room.{room}
use Rattle.rd_reading.specs.Heard.{behind_some}
use Rattle.rd_reading.proofs.judging.whole_units.Given as goal

abbrev pub invariant-loop-one : goal.invariant-loop-one
invariant-loop-one g l =
    let grammar = g.D.Dialect.grammar l.dialect in
    record {
      units : units grammar l.due l.opens ≡ behind_some l.units.items (units grammar l.due (drop l.one-index l.opens));
      count : length l.units.items ≡ l.one-index;
      stand : All (λ (u : LinkUnit). IsDue grammar l.due u.bytes true) l.units.items;
      room : All (λ (u : LinkUnit). length u.bytes ≤ room) l.units.items;
    }
