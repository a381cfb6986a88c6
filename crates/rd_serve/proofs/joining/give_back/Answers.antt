use Rattle.std.proofs.Common.{sym, subst, ◌∙◌}
use Rattle.rd_doors.specs.Visits.{ends_told, run_told}
use Rattle.rd_desk.specs.Noted.{Adds, note_left}
use Rattle.rd_desk.specs.Notes.{dialect_number}
use Rattle.rd_run_session.specs.Dialects.{dialect_on}
use Rattle.rd_run_session.specs.Left.{summary_of}
use Rattle.rd_runner.specs.Runs.{Setup}
use Rattle.rd_serve.proofs.Counted.{counted_joined}
use Rattle.rd_serve.proofs.Answering.{ticked}
use Rattle.rd_serve.proofs.Noting.{noted_back}
use Rattle.rd_serve.specs.Booking.{KeepsBook}
use Rattle.rd_serve.proofs.Booking.{are_joined}
use Rattle.rd_serve.proofs.joining.give_back.Goals as goal

pub returns-clause-counts : goal.returns-clause-counts
returns-clause-counts g c =
    counted_joined c.args.first.now.value c.args.served.runner c.args.runner.now c.take_in_runner.new.runner
    (g.E.Doors.tells c.args.doors.now) (g.E.Doors.tells c.hand_back.new.doors) _ c.requires.counts c.hand_back.ensures.told c.take_in_runner.ensures.counts
    c.requires.kept.yeses c.requires.kept.refusals c.requires.kept.span

pub returns-clause-notes : goal.returns-clause-notes
returns-clause-notes g c =
    ticked _ c.note_run-ended_at.result (g.C.Clock.tells c.args.clock.now) (g.C.Clock.tells c.note_run-ended_at.new.clock) c.note_run-ended_at.ensures.at (λ start asked.
    noted_back start c.args.first.now.value.setup (g.E.Doors.tells c.args.doors.now) (g.E.Doors.tells c.hand_back.new.doors) asked c.args.desk.now c.note_run-ended_at.new.desk c.args.begun c.args.side
    (ends_told g.E.Give.Source.tells g.E.Take.Sink.tells c.args.ends.value) c.note_run-ended_at.result _ c.hand_back.ensures.told c.requires.number c.note_run-ended_at.ensures.drawn c.note_run-ended_at.ensures.let_go
    (subst (λ (s : Setup). Adds (note_left c.args.begun c.args.side (dialect_number (dialect_on c.args.side s)) c.note_run-ended_at.result (summary_of c.args.served.ended.run.left.report)) c.args.desk.now c.note_run-ended_at.new.desk)
    (c.take_in_runner.ensures.counts.setup ∙ c.requires.counts.setup) c.note_run-ended_at.ensures.note))

pub returns-clause-books : goal.returns-clause-books
returns-clause-books g c = λ lent rest keeps.
    are_joined g.row.E-Give.Denot c.args.first.now.value.setup c.args.first.now.value.book (g.E.Doors.tells c.args.doors.now) (g.E.Doors.tells c.hand_back.new.doors) _ c.args.runner.now.book c.take_in_runner.new.runner.book c.args.served.runner.book
    (record { side = c.args.side; ends = ends_told g.E.Give.Source.tells g.E.Take.Sink.tells c.args.ends.value; book = lent }) rest c.hand_back.ensures.told c.requires.number
    (subst (λ n. KeepsBook g.row.E-Give.Denot c.args.first.now.value.setup c.args.side (ends_told g.E.Give.Source.tells g.E.Take.Sink.tells c.args.ends.value) (run_told g.E.Give.Source.tells g.E.Take.Sink.tells n c.args.served.ended.run c.args.served.ended.sinks.items) lent c.args.served.runner.book) c.requires.number keeps)
    c.take_in_runner.ensures.back
