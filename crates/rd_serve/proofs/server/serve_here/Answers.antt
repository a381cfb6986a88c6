use Rattle.std.proofs.Common.{refl, subst, sym, ◌∙◌}
use Rattle.rd_doors.specs.Visits.{Gave, ends_told, run_told}
use Rattle.rd_desk.specs.Noted.{Adds, note_left}
use Rattle.rd_desk.specs.Notes.{dialect_number}
use Rattle.rd_run_session.specs.Dialects.{dialect_on}
use Rattle.rd_run_session.specs.Left.{summary_of}
use Rattle.rd_runner.specs.Runs.{Setup}
use Rattle.rd_serve.specs.Serving.{Has}
use Rattle.rd_serve.proofs.Counted.{counted_run}
use Rattle.rd_serve.proofs.Answering.{ticked}
use Rattle.rd_serve.proofs.Noting.{noted_back}
use Rattle.rd_lent_book.specs.Lending.{calls_told}
use Rattle.rd_run_session.specs.Asking.{CameWith}
use Rattle.rd_serve.proofs.Booking.{are_here}
use Rattle.rd_serve.proofs.server.serve_here.Goals as goal

pub returns-clause-counts : goal.returns-clause-counts
returns-clause-counts g c =
    counted_run c.args.first.now.value c.args.runner.now c.run_visit-ended.new.runner (g.E.Doors.tells c.args.doors.now) (g.E.Doors.tells c.hand_back.new.doors) _ c.requires.counts c.hand_back.ensures.told c.run_visit-ended.ensures.counts

pub hand_back-requires-clause-given : goal.hand_back-requires-clause-given
hand_back-requires-clause-given g c κs within =
    λ told is. subst (λ e. Has (Gave c.args.side (ends_told g.E.Give.Source.tells g.E.Take.Sink.tells e)) told) (sym c.of-handed.ensures) (c.requires.given told is)

pub returns-clause-notes : goal.returns-clause-notes
returns-clause-notes g c =
    ticked _ c.note_run-ended_at.result (g.C.Clock.tells c.args.clock.now) (g.C.Clock.tells c.note_run-ended_at.new.clock) c.note_run-ended_at.ensures.at (λ start asked.
    noted_back start c.args.first.now.value.setup (g.E.Doors.tells c.args.doors.now) (g.E.Doors.tells c.hand_back.new.doors) asked c.args.desk.now c.note_run-ended_at.new.desk c.args.begun c.args.side
    (ends_told g.E.Give.Source.tells g.E.Take.Sink.tells c.args.ends) c.note_run-ended_at.result _ c.hand_back.ensures.told refl c.note_run-ended_at.ensures.drawn c.note_run-ended_at.ensures.let_go
    (subst (λ (s : Setup). Adds (note_left c.args.begun c.args.side (dialect_number (dialect_on c.args.side s)) c.note_run-ended_at.result (summary_of c.run_visit-ended.result.run.left.report)) c.args.desk.now c.note_run-ended_at.new.desk)
    (c.run_visit-ended.ensures.counts.setup ∙ c.requires.counts.setup) c.note_run-ended_at.ensures.note))

pub returns-clause-books : goal.returns-clause-books
returns-clause-books g c = λ rest.
    let run = run_told g.E.Give.Source.tells g.E.Take.Sink.tells c.args.ends.number c.run_visit-ended.result.run c.run_visit-ended.result.sinks.items in
    are_here g.row.E-Give.Denot c.args.first.now.value.setup c.args.first.now.value.book (g.E.Doors.tells c.args.doors.now) (g.E.Doors.tells c.hand_back.new.doors) run c.args.runner.now.book c.run_visit-ended.new.runner.book c.args.side (ends_told g.E.Give.Source.tells g.E.Take.Sink.tells c.args.ends) rest
    c.hand_back.ensures.told refl c.requires.given
    (record {
      came = subst (λ s. CameWith g.row.E-Give.Denot s c.args.side (ends_told g.E.Give.Source.tells g.E.Take.Sink.tells c.args.ends) run (calls_told c.args.runner.now.book) (calls_told c.run_visit-ended.new.runner.book)) c.requires.counts.setup c.run_visit-ended.ensures.came;
      asked = c.run_visit-ended.ensures.asked;
    })
