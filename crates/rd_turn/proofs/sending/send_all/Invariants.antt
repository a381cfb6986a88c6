use Rattle.std.proofs.Common.{◌≡◌, ◌≤◌, ℕ, List, length, map, vec_len}
use Rattle.rd_base.specs.Sent.{sends_to}
use Rattle.rd_turn.specs.Sinks.{AreOpen, WroteFirst}
use Rattle.rd_turn.proofs.sending.send_all.Given as goal

abbrev pub invariant-loop-link : goal.invariant-loop-link
invariant-loop-link g l =
    let K = g.K.Sink in
    let olds = map K.tells l.fn.sinks.items in
    let news = map K.tells l.sinks.items in
    record {
      count : vec_len l.sinks ≡ vec_len l.fn.sinks;
      is_open : AreOpen news;
      few : l.place ≤ l.link;
      place : (f : ℕ → List ℕ) → l.sends ≡ sends_to (vec_len l.fn.sinks) f → l.place ≡ length (sends_to l.link f);
      first : (f : ℕ → List ℕ) → l.sends ≡ sends_to (vec_len l.fn.sinks) f → WroteFirst l.link f olds news;
    }
