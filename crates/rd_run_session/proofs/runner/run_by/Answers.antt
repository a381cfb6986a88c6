use Rattle.std.proofs.Common.{◌≡◌, ℕ, ◌+◌, List, length, map, refl, sym, ap, ◌∙◌, subst, arith, vec_len, None}
use Rattle.rd_base.specs.Outside.{SinkTold}
use Rattle.rd_base.specs.Sources.{SourceTold}
use Rattle.rd_base.specs.declared.values.Side.TheVariants as side
use Rattle.rd_rules.specs.Exchange.{Rules}
use Rattle.rd_gate.specs.declared.gate.View.{View}
use Rattle.rd_doors.specs.Visits.{ends_told, run_told}
use Rattle.rd_turn.specs.Turns.{Outside, outside}
use Rattle.rd_lent_book.specs.Lending.{calls_told}
use Rattle.rd_run.specs.Whole.{may_stay, taken_in, rules_on}
use Rattle.rd_run_session.specs.Left.{summary_of}
use Rattle.rd_run_session.specs.Counted.{Counted}
use Rattle.rd_run_session.proofs.Counting.{runs_counted}
use Rattle.rd_run_session.proofs.Links.{links_many, are_open, sinks_marked, sources_marked}
use Rattle.rd_run_session.specs.Asking.{AsksOn}
use Rattle.rd_run_session.proofs.Answered.{unasked_book}
use Rattle.rd_run_session.proofs.Coming.{came_by}
use Rattle.rd_run_session.proofs.runner.run_by.Goals as goal

pub run_in-run-requires-clause-sources : goal.run_in-run-requires-clause-sources
run_in-run-requires-clause-sources g c =
    let many = links_many g.S.Source.tells (λ s. s.mark) c.args.limits.copies c.args.ends.number c.args.ends.sources.items c.requires.fresh.source_marks in
    omega (arith, many, c.args.ends.sources.ok.0)

pub run_in-run-requires-clause-sinks : goal.run_in-run-requires-clause-sinks
run_in-run-requires-clause-sinks g c =
    let many = links_many g.K.Sink.tells (λ k. k.mark) c.args.limits.copies c.args.ends.number c.args.ends.sinks.items c.requires.fresh.sink_marks in
    omega (arith, many, c.args.ends.sinks.ok.0)

pub run_out-run-requires-clause-sources : goal.run_out-run-requires-clause-sources
run_out-run-requires-clause-sources g c =
    let many = links_many g.S.Source.tells (λ s. s.mark) c.args.limits.copies c.args.ends.number c.args.ends.sources.items c.requires.fresh.source_marks in
    omega (arith, many, c.args.ends.sources.ok.0)

pub run_out-run-requires-clause-sinks : goal.run_out-run-requires-clause-sinks
run_out-run-requires-clause-sinks g c =
    let many = links_many g.K.Sink.tells (λ k. k.mark) c.args.limits.copies c.args.ends.number c.args.ends.sinks.items c.requires.fresh.sink_marks in
    omega (arith, many, c.args.ends.sinks.ok.0)

pub returns-in-Incoming-clause-came : goal.returns-in-Incoming-clause-came
returns-in-Incoming-clause-came g c =
    let r : Rules = rules_on side.Incoming (g.D.Dialect.grammar c.args.dialect) c.args.limits in
    let olds : List SinkTold = map g.K.Sink.tells c.args.ends.sinks.items in
    let before : View → Outside = λ v. outside v (g.C.Clock.tells c.args.clock.now) (g.Q.Stopper.tells c.args.stop.now) (calls_told c.new-asked.result) in
    let after : View → Outside = λ v. outside v (g.C.Clock.tells c.run_in-run.new.clock) (g.Q.Stopper.tells c.run_in-run.new.stop) (calls_told c.run_in-run.new.book) in
    record {
      came = came_by (g.D.Dialect.grammar c.args.dialect) c.args.limits c.args.side side.Incoming c.in-Incoming.is
          (ends_told g.S.Source.tells g.K.Sink.tells c.args.ends)
          (run_told g.S.Source.tells g.K.Sink.tells c.args.ends.number c.ended.result.run c.ended.result.sinks.items)
          c.run_in-run.result before after (g.P.Spawner.tells c.args.spawner.now).refusals (g.P.Spawner.tells c.run_in-run.new.spawner).refusals
          (map g.K.Sink.tells c.run_in-run.new.sinks.items) (map g.S.Source.tells c.run_in-run.result.sources.items)
          (λ v. refl) c.ended.ensures.report c.ended.ensures.left_over
          (ap (λ v. map g.K.Sink.tells v.items) c.ended.ensures.sinks) (ap (λ v. map g.S.Source.tells v.items) c.ended.ensures.sources)
          c.run_in-run.ensures.run c.run_in-run.ensures.sources;
      asks = subst (λ s. AsksOn s before after (calls_told (g.B.LentBook.told c.args.book)) (calls_told (g.B.LentBook.told c.into_book.result))) (sym c.in-Incoming.is) (λ v. (ap calls_told c.new-asked.ensures, ap calls_told (sym c.into_book.ensures.same)));
    }

pub returns-in-Incoming-clause-marks : goal.returns-in-Incoming-clause-marks
returns-in-Incoming-clause-marks g c =
    let run = c.run_in-run.result in
    let olds : List SinkTold = map g.K.Sink.tells c.args.ends.sinks.items in
    record {
      sources = ap (λ v. map (λ (s : SourceTold). s.mark) (map g.S.Source.tells v.items)) c.ended.ensures.sources
          ∙ sources_marked (may_stay run) (taken_in run) 0 (map g.S.Source.tells c.args.ends.sources.items) (map g.S.Source.tells run.sources.items) c.run_in-run.ensures.sources;
      sinks = ap (λ v. map (λ (k : SinkTold). k.mark) (map g.K.Sink.tells v.items)) c.ended.ensures.sinks
          ∙ sinks_marked _ _ _ _ _ run olds (map g.K.Sink.tells c.run_in-run.new.sinks.items) c.run_in-run.ensures.run;
    }

pub returns-in-Incoming-clause-counted : goal.returns-in-Incoming-clause-counted
returns-in-Incoming-clause-counted g c =
    subst (λ report. Counted (summary_of report) (g.C.Clock.tells c.args.clock.now) (g.C.Clock.tells c.run_in-run.new.clock) (g.Q.Stopper.tells c.args.stop.now) (g.Q.Stopper.tells c.run_in-run.new.stop)
    (g.P.Spawner.tells c.args.spawner.now).refusals (g.P.Spawner.tells c.run_in-run.new.spawner).refusals) (sym c.ended.ensures.report)
    (runs_counted (rules_on side.Incoming (g.D.Dialect.grammar c.args.dialect) c.args.limits) _ _ _ _ (calls_told c.new-asked.result) (calls_told c.run_in-run.new.book) _ _ c.run_in-run.result _ _ c.run_in-run.ensures.run c.requires.yeses)

pub returns-in-Outgoing-clause-came : goal.returns-in-Outgoing-clause-came
returns-in-Outgoing-clause-came g c =
    let r : Rules = rules_on side.Outgoing (g.D.Dialect.grammar c.args.dialect) c.args.limits in
    let olds : List SinkTold = map g.K.Sink.tells c.args.ends.sinks.items in
    let before : View → Outside = λ v. outside v (g.C.Clock.tells c.args.clock.now) (g.Q.Stopper.tells c.args.stop.now) None in
    let after : View → Outside = λ v. outside v (g.C.Clock.tells c.run_out-run.new.clock) (g.Q.Stopper.tells c.run_out-run.new.stop) None in
    record {
      came = came_by (g.D.Dialect.grammar c.args.dialect) c.args.limits c.args.side side.Outgoing c.in-Outgoing.is
          (ends_told g.S.Source.tells g.K.Sink.tells c.args.ends)
          (run_told g.S.Source.tells g.K.Sink.tells c.args.ends.number c.ended-in-Outgoing.result.run c.ended-in-Outgoing.result.sinks.items)
          c.run_out-run.result before after (g.P.Spawner.tells c.args.spawner.now).refusals (g.P.Spawner.tells c.run_out-run.new.spawner).refusals
          (map g.K.Sink.tells c.run_out-run.new.sinks.items) (map g.S.Source.tells c.run_out-run.result.sources.items)
          (λ v. refl) c.ended-in-Outgoing.ensures.report c.ended-in-Outgoing.ensures.left_over
          (ap (λ v. map g.K.Sink.tells v.items) c.ended-in-Outgoing.ensures.sinks) (ap (λ v. map g.S.Source.tells v.items) c.ended-in-Outgoing.ensures.sources)
          c.run_out-run.ensures.run c.run_out-run.ensures.sources;
      asks = subst (λ s. AsksOn s before after (calls_told (g.B.LentBook.told c.args.book)) (calls_told (g.B.LentBook.told c.args.book))) (sym c.in-Outgoing.is) refl;
    }

pub returns-in-Outgoing-clause-marks : goal.returns-in-Outgoing-clause-marks
returns-in-Outgoing-clause-marks g c =
    let run = c.run_out-run.result in
    let olds : List SinkTold = map g.K.Sink.tells c.args.ends.sinks.items in
    record {
      sources = ap (λ v. map (λ (s : SourceTold). s.mark) (map g.S.Source.tells v.items)) c.ended-in-Outgoing.ensures.sources
          ∙ sources_marked (may_stay run) (taken_in run) 0 (map g.S.Source.tells c.args.ends.sources.items) (map g.S.Source.tells run.sources.items) c.run_out-run.ensures.sources;
      sinks = ap (λ v. map (λ (k : SinkTold). k.mark) (map g.K.Sink.tells v.items)) c.ended-in-Outgoing.ensures.sinks
          ∙ sinks_marked _ _ _ _ _ run olds (map g.K.Sink.tells c.run_out-run.new.sinks.items) c.run_out-run.ensures.run;
    }

pub returns-in-Outgoing-clause-counted : goal.returns-in-Outgoing-clause-counted
returns-in-Outgoing-clause-counted g c =
    subst (λ report. Counted (summary_of report) (g.C.Clock.tells c.args.clock.now) (g.C.Clock.tells c.run_out-run.new.clock) (g.Q.Stopper.tells c.args.stop.now) (g.Q.Stopper.tells c.run_out-run.new.stop)
    (g.P.Spawner.tells c.args.spawner.now).refusals (g.P.Spawner.tells c.run_out-run.new.spawner).refusals) (sym c.ended-in-Outgoing.ensures.report)
    (runs_counted (rules_on side.Outgoing (g.D.Dialect.grammar c.args.dialect) c.args.limits) _ _ _ _ None None _ _ c.run_out-run.result _ _ c.run_out-run.ensures.run c.requires.yeses)

pub returns-in-Outgoing-clause-asked : goal.returns-in-Outgoing-clause-asked
returns-in-Outgoing-clause-asked g c = unasked_book (g.B.LentBook.told c.args.book)
