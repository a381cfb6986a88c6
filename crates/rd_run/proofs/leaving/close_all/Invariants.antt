use Rattle.std.proofs.Common.{◌≡◌, map, vec_len}
use Rattle.rd_run.specs.Leaving.{ClosedFirst}
use Rattle.rd_run.proofs.leaving.close_all.Given as goal

abbrev pub invariant-loop-link : goal.invariant-loop-link
invariant-loop-link g l =
    let K = g.K.Sink in
    record {
      count : vec_len l.sinks ≡ vec_len l.fn.sinks;
      closed : ClosedFirst l.link (map K.tells l.fn.sinks.items) (map K.tells l.sinks.items);
    }
