-- What causes a link's fault of a session that was served.
use Rattle.std.specs.Prelude.{◌≡◌, List, ◌∷◌, ◌++◌}
use Rattle.rd_base.specs.declared.values.Ending.TheVariants.{LinkFault}
use Rattle.rd_base.specs.declared.values.Link.{Link}
use Rattle.rd_base.specs.declared.values.Side.{Side}
use Rattle.rd_doors.specs.Visits.{EndsTold, RunTold, Entry, CameBack, AreFresh}
use Rattle.rd_runner.specs.Runs.{Setup, Ran}
use Rattle.rd_run_session.specs.CameTo.{CameTo}
use Rattle.rd_run_session.specs.declared.left.SessionLeft.{SessionLeft}
use Rattle.rd_run_laws.specs.Causes.{LinkFailed}
use Rattle.rd_serve.specs.Serving.{IsRunOf, IsServed}

-- a visit's link failed: from when it was given to when its run came back the count of faults of its source rose, or that
-- of its sink
abbrev pub VisitFailed : {L : Type 0} → Link → EndsTold → RunTold L → Type 0
VisitFailed l ends run = LinkFailed l.0 ends.sources run.sources ends.sinks run.sinks

-- the run of a visit that was not used ends as a link's fault only where that link failed
abbrev pub VisitFaultsHaveCauses : Type 0 → Type 0 → Type 0
VisitFaultsHaveCauses S R = (setup : Setup) (side : Side) (ends : EndsTold) (run : RunTold (SessionLeft R)) (l : Link)
    → AreFresh setup.limits.copies ends → Ran (CameTo S) setup side ends run
    → run.left.report.ending ≡ LinkFault l → VisitFailed l ends run

-- the run is that of a visit that was given before, and that visit's link failed
pub record RanAndFailed (S : Type 0) {R : Type 0} (setup : Setup) (before : List (Entry (SessionLeft R))) (run : RunTold (SessionLeft R)) (l : Link) : Type 0 where
  pub visit : IsRunOf (CameTo S) setup before run
  pub failed : VisitFailed l visit.ends run

-- each run that came back from serving as a link's fault is that of a visit given before whose link failed
abbrev pub ServedFaultsHaveCauses : Type 0 → Type 0 → Type 0
ServedFaultsHaveCauses S R = (setup : Setup) (told before after : List (Entry (SessionLeft R))) (run : RunTold (SessionLeft R)) (l : Link)
    → IsServed (CameTo S) setup told → told ≡ before ++ CameBack run ∷ after
    → run.left.report.ending ≡ LinkFault l → RanAndFailed S setup before run l
