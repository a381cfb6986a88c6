use Rattle.rd_run_laws.proofs.Stamps.{stamps_are_within}
use Rattle.rd_run_laws.proofs.Stops.{stops_have_yeses, yeses_have_stops}
use Rattle.rd_run_laws.proofs.Faults.{write_fails_have_faults}
use Rattle.rd_run_laws.proofs.Endings.{only_faults}
use Rattle.rd_run_laws.proofs.laws.cause_laws.Goals as goal

pub returns : goal.returns
returns c = record { stamps = stamps_are_within; stops = stops_have_yeses; yeses = yeses_have_stops; write_fails = write_fails_have_faults; only_faults = only_faults }
