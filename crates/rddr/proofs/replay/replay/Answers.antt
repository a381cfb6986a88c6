use Rattle.std.proofs.Common.{ap, ◌∙◌}
use Rattle.rd_session_run.proofs.Held.{at_error}
use Rattle.rddr.specs.Outcome.{transcript_outcome, status_of}
use Rattle.rddr.proofs.replay.replay.Goals as goal

pub returns-in_err-ending-clause-prefix : goal.returns-in_err-ending-clause-prefix
unfolding transcript_outcome
returns-in_err-ending-clause-prefix g c = at_error c.from_residual.result c.in_err-ending.ensures.prefix

pub returns-clause-status : goal.returns-clause-status
unfolding transcript_outcome
returns-clause-status g c = c.status_of.ensures.status ∙ ap status_of c.in_ok-ending.ensures.ending

pub returns-clause-text : goal.returns-clause-text
unfolding transcript_outcome
returns-clause-text g c = c.in_ok-ending.ensures.text
