use Rattle.std.proofs.Common.{◌≡◌, ◌≤◌, ◌∷◌, [], List, not, get_or, length, length-take, Result, Ok, Err, ap, arith}
use Rattle.std.specs.Prelude.{filter, OnOk, OnErr}
use Rattle.rd_base.specs.declared.bytes.NoMemory.{NoMemory}
use Rattle.rd_base.specs.History.{Row}
use Rattle.rd_base.specs.Swap.{shows}
use Rattle.rd_base.specs.OwnRows.{learn_row, shown_of}
use Rattle.rd_token_map.proofs.own_rows.OwnRows.learn.Goals as goal

few : (r : Result (Unit {0}) NoMemory) (new old : List Row) (row : Row) → length old ≤ 256 → OnOk r (new ≡ learn_row 256 old row) → OnErr r (new ≡ old) → length new ≤ 256
few (Ok u) new old row most ok err = omega (arith, ap length ok, length-take 256 (row ∷ filter (λ r. not (shows (shown_of row) r)) old))
few (Err e) new old row most ok err = omega (arith, ap length err)

pub invariant_of-self : goal.invariant_of-self
invariant_of-self c = few c.learn.result c.learn.new.self c.self.inside.rows (get_or c.args.rows.now c.args.place []) c.self.invariant c.learn.ensures.ok c.learn.ensures.err
