use Rattle.std.proofs.Common.{append_assoc}
use Rattle.rd_session_run.specs.Summaries.{count_line}
use Rattle.rd_session_run.proofs.summary.count_line.Goals as goal

pub returns : goal.returns
unfolding count_line
returns c = simp append_assoc c.format.ensures.ok
