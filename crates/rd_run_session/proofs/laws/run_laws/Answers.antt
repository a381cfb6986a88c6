use Rattle.rd_run_session.proofs.Causes.{stops_are_counted, stamps_are_within}
use Rattle.rd_run_session.proofs.laws.run_laws.Goals as goal

pub returns : goal.returns
returns c = record { stops = stops_are_counted; stamps = stamps_are_within }
