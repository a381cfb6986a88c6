-- The counts and the span of who runs sessions.
use Rattle.std.specs.Prelude.{◌≡◌, ℕ, ◌+◌, ◌-◌, ◌^◌, ◌≤◌, ◌⊎◌, max, Option}
use Rattle.rd_base.specs.Counts.{sum_counted}
use Rattle.rd_base.specs.declared.values.Ending.{Ending}
use Rattle.rd_base.specs.declared.values.Ending.TheVariants.{Late, Stopped, Unstarted}
use Rattle.rd_lent_book.specs.Lending.{BookView}
use Rattle.rd_runner.specs.declared.session.Summary.{Summary}
use Rattle.rd_runner.specs.Runs.{Setup}

-- what it holds sessions to, how often it said yes to one that asked whether to stop, how many starts of readers were
-- refused, the greatest difference of two answers of one of its clocks, and its book, where that tells
pub record RunnerTold : Type 0 where
  pub setup : Setup
  pub yeses : ℕ
  pub refusals : ℕ
  pub span : ℕ
  pub book : Option BookView

-- 1 for Stopped
abbrev pub stopped : Ending → ℕ
stopped Stopped = 1
stopped other = 0

-- 1 for Unstarted
abbrev pub unstarted : Ending → ℕ
unstarted Unstarted = 1
unstarted other = 0

-- this stamp for Late, else 0
abbrev pub late : ℕ → Ending → ℕ
late stamp (Late which) = stamp
late stamp other = 0

-- a count rose by at least so much, or stands at its last value
abbrev pub RoseBy : ℕ → ℕ → ℕ → Type 0
RoseBy n before after = (n + before ≤ after) ⊎ (2 ^ 64 - 1 ≤ after)

-- a session was run that came to this: Stopped and Unstarted have their count, and Late's stamp is within the span
pub record Runs (summary : Summary) (before after : RunnerTold) : Type 0 where
  pub setup : after.setup ≡ before.setup
  pub yeses : RoseBy (stopped summary.ending) before.yeses after.yeses
  pub yeses_stay : before.yeses ≤ after.yeses
  pub refusals : RoseBy (unstarted summary.ending) before.refusals after.refusals
  pub refusals_stay : before.refusals ≤ after.refusals
  pub latest : late summary.last summary.ending ≤ after.span
  pub span : before.span ≤ after.span

-- a further one of the same setup, which counts from 0
pub record IsAnother (of other : RunnerTold) : Type 0 where
  pub setup : other.setup ≡ of.setup
  pub yeses : other.yeses ≡ 0
  pub refusals : other.refusals ≡ 0
  pub span : other.span ≡ 0

-- the counts and the span of one that is no longer used are taken in
pub record TakesIn (other before after : RunnerTold) : Type 0 where
  pub setup : after.setup ≡ before.setup
  pub yeses : after.yeses ≡ sum_counted before.yeses other.yeses
  pub refusals : after.refusals ≡ sum_counted before.refusals other.refusals
  pub span : after.span ≡ max before.span other.span
