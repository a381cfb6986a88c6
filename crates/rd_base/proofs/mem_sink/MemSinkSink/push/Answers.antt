use Rattle.std.proofs.Common.{ap, ◌∙◌, subst, ◌≤◌, arith}
use Rattle.rd_base.specs.Outside.{Rose}
use Rattle.rd_base.proofs.MemWrites.{prefix_held, risen}
use Rattle.rd_base.proofs.mem_sink.MemSinkSink.push.Goals as goal

pub returns-in-Some-clause-writes : goal.returns-in-Some-clause-writes
returns-in-Some-clause-writes c = record {
  all = tt;
  part = prefix_held c.args.self.now.held c.self.inside.held c.write_front.new.held c.args.bytes.now c.min-written.result (ap (λ s. s.held) c.self.view_is) c.write_front.ensures;
  failed = λ _. subst (λ n. Rose n c.saturating_add-self-inside-in-Some.result) (ap (λ s. s.faults) c.self.view_is) (risen c.self.inside.faults c.saturating_add-self-inside-in-Some.result c.saturating_add-self-inside-in-Some.ensures);
  stays = record {
    faults = subst (λ n. n ≤ c.saturating_add-self-inside-in-Some.result) (ap (λ s. s.faults) c.self.view_is) (omega (arith, c.saturating_add-self-inside-in-Some.ensures, c.self.invariant));
    stays_open = ap (λ s. s.is_closed) c.self.view_is ∙ c.requires;
    mark = ap (λ s. s.mark) c.self.view_is;
  };
}
