use Rattle.std.proofs.Common.{◌≡◌, drop}
use Rattle.rd_base.specs.MemSink.{fault_at}
use Rattle.rd_base.proofs.mem_sink.fault_of.Given as goal

abbrev pub invariant-loop-fault : goal.invariant-loop-fault
invariant-loop-fault l = fault_at l.call l.failing ≡ fault_at l.call (drop l.fault-index l.failing)
