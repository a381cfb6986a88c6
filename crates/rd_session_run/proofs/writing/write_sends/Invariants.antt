use Rattle.std.proofs.Common.{◌≡◌, ◌≤◌, false, take}
use Rattle.rd_base.specs.Outside.{held_with}
use Rattle.rd_session_run.specs.Transcripts.{sends_text}
use Rattle.rd_session_run.proofs.writing.write_sends.Given as goal

abbrev pub invariant-loop-place : goal.invariant-loop-place
invariant-loop-place g l = record {
  held : (g.K.Sink.tells l.out).held ≡ held_with (g.K.Sink.tells l.fn.out).held (sends_text l.step (take l.place l.sends));
  faults : (g.K.Sink.tells l.fn.out).faults ≤ (g.K.Sink.tells l.out).faults;
  is_open : (g.K.Sink.tells l.out).is_closed ≡ false;
  mark : (g.K.Sink.tells l.out).mark ≡ (g.K.Sink.tells l.fn.out).mark;
}
