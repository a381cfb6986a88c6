use Rattle.rd_gate.proofs.Ends.{begins_ended, takes_ended}
use Rattle.rd_gate.proofs.laws.gate_laws.Goals as goal

pub returns : goal.returns
returns c = record { begins = begins_ended; all = takes_ended }
