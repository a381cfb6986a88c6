-- What a run of a session is of the visit whose links it was handed.
use Rattle.std.proofs.Common.{◌≡◌, ℕ, List, None, refl, sym, ap, subst}
use Rattle.rd_base.specs.Outside.{SinkTold}
use Rattle.rd_base.specs.Sources.{SourceTold}
use Rattle.rd_base.specs.declared.values.Limits.{Limits}
use Rattle.rd_base.specs.declared.values.Side.{Side}
use Rattle.rd_dialect.specs.Grammar.{Grammar}
use Rattle.rd_gate.specs.declared.gate.View.{View}
use Rattle.rd_doors.specs.Visits.{EndsTold, RunTold}
use Rattle.rd_turn.specs.Turns.{Outside, outside}
use Rattle.rd_run.specs.Links.{LinksDone}
use Rattle.rd_run.specs.Whole.{RunsBy, may_stay, taken_in, rules_on}
use Rattle.rd_run.specs.declared.items.LeftOver.{LeftOver}
use Rattle.rd_run.specs.declared.run.Run.{Run}
use Rattle.rd_run.specs.declared.run.Report.{Report}
use Rattle.rd_run_session.specs.CameTo.{CameBy}
use Rattle.rd_run_session.specs.declared.left.SessionLeft.{SessionLeft}

-- outside objects that tell nothing
pub nothing_told : View → Outside
nothing_told v = outside v (record { answers = None; reach = None; span = 0 }) (record { asked = None; yeses = 0 }) None

module _ {S R : Type 0} where
  abbrev pub came_by : (g : Grammar) (limits : Limits) (side ran : Side) → side ≡ ran → (ends : EndsTold) (told : RunTold (SessionLeft R)) (run : Run S R) (before after : View → Outside) (f f' : ℕ)
      (news : List SinkTold) (backs : List SourceTold) → ((v : View) → (after v).gate ≡ v)
      → told.left.report ≡ run.report → told.left.left_over ≡ run.left_over → told.sinks ≡ news → told.sources ≡ backs
      → RunsBy (rules_on ran g limits) before after f f' run ends.sinks news → LinksDone (may_stay run) (taken_in run) 0 ends.sources backs → CameBy S g limits side ends told
  came_by g limits side ran same ends told run before after f f' news backs gate report left_over sinks sources runs links = record {
    run = run;
    report = sym report;
    left_over = sym left_over;
    before = before;
    after = after;
    gate = gate;
    refusals = f;
    refusals_after = f';
    ran = subst (λ s. RunsBy (rules_on s g limits) before after f f' run ends.sinks told.sinks) (sym same)
        (subst (λ ks. RunsBy (rules_on ran g limits) before after f f' run ends.sinks ks) (sym sinks) runs);
    links = subst (λ ss. LinksDone (may_stay run) (taken_in run) 0 ends.sources ss) (sym sources) links;
  }
