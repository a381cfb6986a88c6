-- What a session comes to, over the links of a visit.
use Rattle.std.specs.Prelude.{◌≡◌, ℕ, map}
use Rattle.rd_base.specs.declared.values.Limits.{Limits}
use Rattle.rd_base.specs.declared.values.Side.{Side}
use Rattle.rd_dialect.specs.Grammar.{Grammar}
use Rattle.rd_doors.specs.Visits.{EndsTold, RunTold}
use Rattle.rd_gate.specs.declared.gate.View.{View}
use Rattle.rd_turn.specs.Turns.{Outside}
use Rattle.rd_run.specs.Links.{LinksDone}
use Rattle.rd_run.specs.Whole.{RunsBy, may_stay, taken_in, rules_on}
use Rattle.rd_run.specs.declared.run.Run.{Run}
use Rattle.rd_runner.specs.Runs.{Setup}
use Rattle.rd_run_session.specs.declared.left.SessionLeft.{SessionLeft}
use Rattle.rd_run_session.specs.Dialects.{grammar_on}

-- a session of this side ran in a dialect of this grammar, held to these limits, over the links of a visit, and left
-- this: its sources were read and its sinks written as the promise of a run says, by what some clock, stopper, book and
-- spawner told before and after
pub record CameBy (S : Type 0) {R : Type 0} (g : Grammar) (limits : Limits) (side : Side) (ends : EndsTold) (told : RunTold (SessionLeft R)) : Type 0 where
  pub run : Run S R
  pub report : run.report ≡ told.left.report
  pub left_over : run.left_over ≡ told.left.left_over
  -- what was told, with each pass that the owner may have come to
  pub before : View → Outside
  pub after : View → Outside
  pub gate : (v : View) → (after v).gate ≡ v
  pub refusals : ℕ
  pub refusals_after : ℕ
  pub ran : RunsBy (rules_on side g limits) before after refusals refusals_after run ends.sinks told.sinks
  pub links : LinksDone (may_stay run) (taken_in run) 0 ends.sources told.sources

-- a session of this setup
abbrev pub CameTo : (S : Type 0) → {R : Type 0} → Setup → Side → EndsTold → RunTold (SessionLeft R) → Type 0
CameTo S setup side ends told = CameBy S (grammar_on side setup) setup.limits side ends told

-- sources and sinks have the marks of those that were handed in
pub record KeepsMarks {L : Type 0} (ends : EndsTold) (told : RunTold L) : Type 0 where
  pub sources : map (λ s. s.mark) told.sources ≡ map (λ s. s.mark) ends.sources
  pub sinks : map (λ k. k.mark) told.sinks ≡ map (λ k. k.mark) ends.sinks
