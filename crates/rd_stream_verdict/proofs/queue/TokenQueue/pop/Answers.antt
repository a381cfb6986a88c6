use Rattle.std.proofs.Common.{ap, arith}
use Rattle.rd_stream_verdict.specs.Queue.{cut_bytes}
use Rattle.rd_stream_verdict.proofs.queue.TokenQueue.pop.Goals as goal

pub overflow_add-self : goal.overflow_add-self
overflow_add-self c = omega (arith, ap cut_bytes c.in-Some.ensures.items)
