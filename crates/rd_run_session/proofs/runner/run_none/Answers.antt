use Rattle.std.proofs.Common.{◌≡◌, ℕ, List, None, map, refl, sym, ap, subst, ◌∙◌}
use Rattle.rd_base.specs.Outside.{SinkTold}
use Rattle.rd_base.specs.Sources.{SourceTold}
use Rattle.rd_dialect.specs.LineGrammar.{line}
use Rattle.rd_gate.specs.declared.gate.View.{View}
use Rattle.rd_doors.specs.Visits.{ends_told, run_told}
use Rattle.rd_rules.specs.Exchange.{Rules}
use Rattle.rd_turn.specs.Turns.{Outside, outside}
use Rattle.rd_run_session.specs.Left.{summary_of}
use Rattle.rd_run_session.specs.Counted.{Counted}
use Rattle.rd_run_session.proofs.Counting.{runs_counted}
use Rattle.rd_run.specs.Whole.{may_stay, taken_in, rules_on}
use Rattle.rd_run_session.proofs.Coming.{came_by, nothing_told}
use Rattle.rd_run_session.proofs.Answered.{asks_nothing, book_alone}
use Rattle.rd_run_session.proofs.Links.{sinks_marked, sources_marked}
use Rattle.rd_run_session.proofs.runner.run_none.Goals as goal

pub returns-clause-came : goal.returns-clause-came
returns-clause-came g c = λ grammar book.
    let limits = c.args.limits in
    let side = c.args.side in
    let run = c.run_unmade-run in
    let asks : View → Outside = book_alone book in
    record {
      came = came_by grammar limits side side refl (ends_told g.S.Source.tells g.K.Sink.tells c.args.ends)
          (run_told g.S.Source.tells g.K.Sink.tells c.args.ends.number c.ended.result.run c.ended.result.sinks.items)
          run.result asks asks 0 0 (map g.K.Sink.tells run.new.sinks.items) (map g.S.Source.tells run.result.sources.items)
          (λ v. refl) c.ended.ensures.report c.ended.ensures.left_over
          (ap (λ v. map g.K.Sink.tells v.items) c.ended.ensures.sinks) (ap (λ v. map g.S.Source.tells v.items) c.ended.ensures.sources)
          (run.ensures.run (rules_on side grammar limits) asks 0) run.ensures.sources;
      asks = asks_nothing side asks book (λ v. refl);
    }

pub returns-clause-marks : goal.returns-clause-marks
returns-clause-marks g c =
    let run = c.run_unmade-run in
    let olds : List SinkTold = map g.K.Sink.tells c.args.ends.sinks.items in
    record {
      sources = ap (λ v. map (λ (s : SourceTold). s.mark) (map g.S.Source.tells v.items)) c.ended.ensures.sources
          ∙ sources_marked (may_stay run.result) (taken_in run.result) 0 (map g.S.Source.tells c.args.ends.sources.items) (map g.S.Source.tells run.result.sources.items) run.ensures.sources;
      sinks = ap (λ v. map (λ (k : SinkTold). k.mark) (map g.K.Sink.tells v.items)) c.ended.ensures.sinks
          ∙ sinks_marked (rules_on c.args.side line c.args.limits) nothing_told nothing_told 0 0 run.result olds (map g.K.Sink.tells run.new.sinks.items)
          (run.ensures.run (rules_on c.args.side line c.args.limits) nothing_told 0);
    }

pub returns-clause-counted : goal.returns-clause-counted
returns-clause-counted g c = λ clock stopper refusals most.
    let r : Rules = rules_on c.args.side line c.args.limits in
    subst (λ report. Counted (summary_of report) clock clock stopper stopper refusals refusals) (sym c.ended.ensures.report)
    (runs_counted r clock clock stopper stopper None None refusals refusals c.run_unmade-run.result _ _
    (c.run_unmade-run.ensures.run r (λ v. outside v clock stopper None) refusals) most)
