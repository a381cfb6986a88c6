use Rattle.std.proofs.Common.{◌≡◌, ◌+◌, map, length}
use Rattle.std.specs.Prelude.{All}
use Rattle.rd_rules.specs.Exchange.{read}
use Rattle.rd_rules.specs.Step.{with_done}
use Rattle.rd_reading.specs.Whole.{IsDone}
use Rattle.rd_reading.specs.Seen.{seen_front, latest_front, seen_exchange, rows_are, rules_of, AreMasked}
use Rattle.rd_reading.proofs.read.read_on.Given as goal

abbrev pub invariant-loop-more : goal.invariant-loop-more
invariant-loop-more g l =
    let grammar = g.D.Dialect.grammar l.dialect in
    record {
      reads : read grammar l.setup.limits.mask l.spare (seen_front l.front) ≡ with_done (map seen_exchange l.done.items) (read grammar l.setup.limits.mask l.more (seen_front (latest_front l.front l.left)));
      spare : length l.done.items + l.more ≡ l.spare;
      done : All (λ x. IsDone grammar (seen_exchange x)) l.done.items;
      masked : All (AreMasked (rules_of grammar l.setup)) l.done.items;
      rows : rows_are (rules_of grammar l.setup) l.done.items;
    }

abbrev pub decreases-loop-more : goal.decreases-loop-more
decreases-loop-more g l = l.more
