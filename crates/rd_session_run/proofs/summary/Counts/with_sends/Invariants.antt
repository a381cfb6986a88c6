use Rattle.std.proofs.Common.{◌≡◌, ◌≤◌, ◌+◌, ◌*◌, take}
use Rattle.std.specs.Prelude.{◌^◌, ◌==◌, not, sum_by}
use Rattle.rd_session_run.specs.Counting.{bytes_where}
use Rattle.rd_session_run.proofs.summary.Counts.with_sends.Given as goal

abbrev pub invariant-loop-place : goal.invariant-loop-place
invariant-loop-place l = record {
  events : l.self.events ≡ l.fn.self.events;
  to_client : l.self.to_client ≡ l.fn.self.to_client + sum_by (bytes_where (λ k. k == l.single.0)) (take l.place l.sends);
  to_instances : l.self.to_instances ≡ l.fn.self.to_instances + sum_by (bytes_where (λ k. not (k == l.single.0))) (take l.place l.sends);
  most_client : l.self.to_client ≤ l.fn.self.to_client + l.place * 2 ^ 64;
  most_instances : l.self.to_instances ≤ l.fn.self.to_instances + l.place * 2 ^ 64;
}
