use Rattle.std.proofs.Common.{◌≡◌, map, vec_len}
use Rattle.rd_core.specs.Standing.{IsAt}
use Rattle.rd_turn.specs.Sinks.{AreOpen}
use Rattle.rd_turn.specs.Turns.{outside, rules_by}
use Rattle.rd_turn.specs.Runs.{Runs}
use Rattle.rd_turn.proofs.running.run_turns.Given as goal

abbrev pub invariant-loop : goal.invariant-loop
invariant-loop g l =
    let r = rules_by g.D.Dialect.grammar l.fn.session in
    let olds = map g.K.Sink.tells l.fn.sinks.items in
    let news = map g.K.Sink.tells l.sinks.items in
    record {
      dialect : l.session.dialect ≡ l.fn.session.dialect;
      setup : l.session.setup ≡ l.fn.session.setup;
      count : vec_len l.sinks ≡ vec_len l.fn.sinks;
      is_open : AreOpen news;
      gate : l.gate.gate ≡ l.fn.gate.gate;
      runs : Runs r l.base
          (outside l.fn.gate.knows (g.C.Clock.tells l.fn.clock) (g.Q.Stopper.tells l.fn.stop) (g.B.TokenBook.tells l.fn.book))
          (outside l.gate.knows (g.C.Clock.tells l.clock) (g.Q.Stopper.tells l.stop) (g.B.TokenBook.tells l.book))
          l.journal.entries.list l.journal.told (IsAt r l.session) olds news;
    }
