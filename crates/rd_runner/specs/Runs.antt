-- What sessions are held to, and what a run is of the visit that it was handed.
use Rattle.std.specs.Prelude.{◌≡◌, map}
use Rattle.rd_base.specs.declared.values.Side.{Side}
use Rattle.rd_base.specs.declared.values.Limits.{Limits}
use Rattle.rd_base.specs.declared.names.NameRules.{NameRules}
use Rattle.rd_conf.specs.declared.settings.DialectName.{DialectName}
use Rattle.rd_conf.specs.declared.settings.Settings.{Settings}
use Rattle.rd_doors.specs.Visits.{EndsTold, RunTold}

-- what settings say of sessions
pub record Setup : Type 0 where
  pub limits : Limits
  pub incoming : DialectName
  pub outgoing : DialectName
  pub rules : NameRules

abbrev pub setup_of : Settings → Setup
setup_of s = record { limits = s.limits; incoming = s.incoming; outgoing = s.outgoing; rules = s.rules }

-- a run of a visit's links, which came to this: it has the visit's number, and sources and sinks with its marks
pub record Ran {L : Type 0} (by : Setup → Side → EndsTold → RunTold L → Type 0) (setup : Setup) (side : Side) (ends : EndsTold) (run : RunTold L) : Type 0 where
  pub number : run.number ≡ ends.number
  pub source_marks : map (λ s. s.mark) run.sources ≡ map (λ s. s.mark) ends.sources
  pub sink_marks : map (λ k. k.mark) run.sinks ≡ map (λ k. k.mark) ends.sinks
  pub came_to : by setup side ends run
