use Rattle.rd_served_laws.proofs.Served.{visit_faults, served_faults}
use Rattle.rd_served_laws.proofs.laws.served_laws.Goals as goal

pub returns : goal.returns
returns g c = record {
  visit_faults = visit_faults g.row.S.Denot g.row.R.Denot c.link_laws.ensures.link_faults;
  link_faults = served_faults g.row.S.Denot g.row.R.Denot c.link_laws.ensures.link_faults;
}
