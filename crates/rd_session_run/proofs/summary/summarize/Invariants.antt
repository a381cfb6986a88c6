use Rattle.std.proofs.Common.{◌≡◌, take}
use Rattle.rd_core.specs.Standing.{IsAt}
use Rattle.rd_rules.specs.Exchange.{Rules}
use Rattle.rd_session_run.specs.Counting.{AreCounts, AreSmall}
use Rattle.rd_session_run.proofs.summary.summarize.Given as goal

abbrev pub invariant-loop-place : goal.invariant-loop-place
invariant-loop-place g l =
    let rules : Rules = record { side = l.fn.side; grammar = g.D.Dialect.grammar l.fn.dialect; limits = l.fn.limits } in
    record {
      dialect : l.session.dialect ≡ l.fn.dialect;
      setup : l.session.setup ≡ record { side = l.fn.side; limits = l.fn.limits };
      at : IsAt rules l.session (take l.place l.script.entries);
      counts : AreCounts rules (take l.place l.script.entries) l.counts;
      small : AreSmall l.place l.counts;
    }
