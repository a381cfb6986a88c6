-- What the run of a session does to counts.
use Rattle.std.specs.Prelude.{ℕ, ◌≤◌, ◌-◌, ◌^◌, min}
use Rattle.rd_base.specs.Clocks.{ClockTold, StopperTold}
use Rattle.rd_runner.specs.declared.session.Summary.{Summary}
use Rattle.rd_runner.specs.Counts.{RoseBy, stopped, unstarted, late}

-- a count, at most its last value
abbrev pub capped : ℕ → ℕ
capped n = min n (2 ^ 64 - 1)

-- Stopped and Unstarted have their count, and Late's stamp is within the span
pub record Counted (s : Summary) (clock clock_after : ClockTold) (stopper stopper_after : StopperTold) (refusals refusals_after : ℕ) : Type 0 where
  pub yeses : RoseBy (stopped s.ending) stopper.yeses stopper_after.yeses
  pub yeses_stay : stopper.yeses ≤ stopper_after.yeses
  pub yeses_most : stopper_after.yeses ≤ 2 ^ 64 - 1
  pub refused : RoseBy (unstarted s.ending) (capped refusals) (capped refusals_after)
  pub refused_stay : capped refusals ≤ capped refusals_after
  pub latest : late s.last s.ending ≤ clock_after.span
  pub span : clock.span ≤ clock_after.span
