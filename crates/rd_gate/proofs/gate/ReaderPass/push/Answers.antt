use Rattle.rd_gate.proofs.Steps.{sends, sees}
use Rattle.rd_gate.proofs.gate.ReaderPass.push.Goals as goal

pub push_as-requires-clause-rule : goal.push_as-requires-clause-rule
push_as-requires-clause-rule g c = (sends _ _ _ _ _ c.self.invariant.1 c.self.invariant.2 c.self.invariant.3, sees _ _ c.self.invariant.1)
