use Rattle.rd_run_laws.proofs.Links.{link_faults_have_causes}
use Rattle.rd_run_laws.proofs.laws.link_laws.Goals as goal

pub returns : goal.returns
returns g c = record { link_faults = link_faults_have_causes g.row.S.Denot g.row.R.Denot }
