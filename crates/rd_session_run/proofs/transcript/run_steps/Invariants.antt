use Rattle.std.proofs.Common.{◌≡◌, ◌≤◌, false, take}
use Rattle.rd_base.specs.Outside.{held_with}
use Rattle.rd_reading.specs.Seen.{rules_of}
use Rattle.rd_core.specs.Standing.{IsAt}
use Rattle.rd_rules.specs.Sent.{steps_of}
use Rattle.rd_session_run.specs.Transcripts.{steps_text}
use Rattle.rd_session_run.proofs.transcript.run_steps.Given as goal

abbrev pub invariant-loop-place : goal.invariant-loop-place
invariant-loop-place g l =
    let rules = rules_of (g.D.Dialect.grammar l.fn.session.dialect) l.fn.session.setup in
    let h = l.script.entries in
    record {
      dialect : l.session.dialect ≡ l.fn.session.dialect;
      setup : l.session.setup ≡ l.fn.session.setup;
      at : IsAt rules l.session (take l.place h);
      held : (g.K.Sink.tells l.out).held ≡ held_with (g.K.Sink.tells l.fn.out).held (steps_text (steps_of rules h l.place));
      faults : (g.K.Sink.tells l.fn.out).faults ≤ (g.K.Sink.tells l.out).faults;
      is_open : (g.K.Sink.tells l.out).is_closed ≡ false;
      mark : (g.K.Sink.tells l.out).mark ≡ (g.K.Sink.tells l.fn.out).mark;
    }
