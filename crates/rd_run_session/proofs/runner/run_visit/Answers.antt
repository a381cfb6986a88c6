use Rattle.std.proofs.Common.{◌≡◌, refl, sym, ap, subst, ◌∙◌}
use Rattle.rd_doors.specs.Visits.{ends_told, run_told}
use Rattle.rd_lent_book.specs.Lending.{calls_told}
use Rattle.rd_runner.specs.Runs.{Setup, Ran}
use Rattle.rd_runner.specs.Counts.{RunnerTold}
use Rattle.rd_run_session.specs.Asking.{CameWith}
use Rattle.rd_run_session.specs.CameTo.{CameTo}
use Rattle.rd_run_session.specs.Holding.{book_held}
use Rattle.rd_run_session.proofs.Naming.{came_with}
use Rattle.rd_run_session.proofs.runner.run_visit.Goals as goal

pub returns-clause-came : goal.returns-clause-came
returns-clause-came g c =
    let inside = c.runner.inside in
    let setup : Setup = record { limits = inside.limits; incoming = inside.incoming; outgoing = inside.outgoing; rules = inside.rules } in
    let ends = ends_told g.S.Source.tells g.K.Sink.tells c.args.ends in
    let told = run_told g.S.Source.tells g.K.Sink.tells c.args.ends.number c.run_named-ended.result.0.run c.run_named-ended.result.0.sinks.items in
    let back = calls_told (g.B.LentBook.told c.run_named-ended.result.1) in
    let lent : g.B.LentBook.told c.in-Some.lent ≡ book_held g.B.LentBook.told inside.book = ap (book_held g.B.LentBook.told) (sym c.in-Some.is ∙ c.take.ensures.value) in
    subst (λ (v : RunnerTold). CameWith g.row.S.Denot v.setup c.args.side ends told (calls_told v.book) back) c.runner.view_is
    (subst (λ b. CameWith g.row.S.Denot setup c.args.side ends told (calls_told b) back) lent
    (came_with setup c.args.side ends told (calls_told (g.B.LentBook.told c.in-Some.lent)) back _ (c.dialect_on-name.ensures setup refl refl) c.run_named-ended.ensures.came))

pub returns-clause-ran : goal.returns-clause-ran
returns-clause-ran g c =
    let inside = c.runner.inside in
    let setup : Setup = record { limits = inside.limits; incoming = inside.incoming; outgoing = inside.outgoing; rules = inside.rules } in
    let ends = ends_told g.S.Source.tells g.K.Sink.tells c.args.ends in
    let told = run_told g.S.Source.tells g.K.Sink.tells c.args.ends.number c.run_named-ended.result.0.run c.run_named-ended.result.0.sinks.items in
    subst (λ (s : Setup). Ran (CameTo g.row.S.Denot) s c.args.side ends told) (ap (λ (v : RunnerTold). v.setup) c.runner.view_is) (record {
      number = refl;
      source_marks = c.run_named-ended.ensures.marks.sources;
      sink_marks = c.run_named-ended.ensures.marks.sinks;
      came_to = (came_with setup c.args.side ends told _ _ _ (c.dialect_on-name.ensures setup refl refl) c.run_named-ended.ensures.came).came;
    })
