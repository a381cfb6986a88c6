use Rattle.std.proofs.Common.{◌≡◌, All, vec_len, false}
use Rattle.rd_base.specs.MemSink.{sink_tells}
use Rattle.rd_stress.proofs.links.links_of.Given as goal

abbrev pub invariant-loop-link : goal.invariant-loop-link
invariant-loop-link g l =
    record {
      sources : vec_len l.sources ≡ l.link;
      sinks : vec_len l.sinks ≡ l.link;
      is_open : All (λ s. (sink_tells s).is_closed ≡ false) l.sinks.items;
    }
