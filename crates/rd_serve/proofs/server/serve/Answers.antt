use Rattle.std.proofs.Common.{◌≡◌, ◌≤◌, [], sym, ap, ◌∙◌, subst, arith}
use Rattle.rd_desk.proofs.At.{rose_sooner}
use Rattle.rd_run_session.specs.CameTo.{CameTo}
use Rattle.rd_doors.specs.Visits.{ends_told}
use Rattle.rd_runner.specs.Counts.{RunnerTold}
use Rattle.rd_serve.specs.Noting.{AreServed, IsBegun, NotesServe}
use Rattle.rd_serve.specs.Operators.{Answering, NotesAndAnswers}
use Rattle.rd_serve.specs.Sessions.{Each}
use Rattle.rd_serve.proofs.Answering.{answers_by, then_answering, serve_stay}
use Rattle.rd_serve.proofs.Noting.{noted_first, noted_ends, on_both, on_ok}
use Rattle.rd_serve.proofs.Times.{all_ended}
use Rattle.rd_serve.specs.Booking.{AreBooked, lents}
use Rattle.rd_serve.specs.Books.{ServedBook}
use Rattle.rd_serve.proofs.Booking.{are_started, booked_served}
use Rattle.rd_serve.proofs.server.serve.Goals as goal

pub returns-clause-ended : goal.returns-clause-ended
returns-clause-ended g c =
    on_ok c.keep_all.result _ (λ told is n. all_ended (CameTo g.row.E-Give.Denot) _ n told (c.join_all.ensures.tells.served told is) (sym (c.join_all.ensures.tells.out told is) ∙ c.join_all.ensures.out))

pub returns-clause-notes : goal.returns-clause-notes
returns-clause-notes g c =
    let all : Answering (NotesServe c.of-first.result.value.setup (g.E.Doors.tells c.args.doors.now) (g.E.Doors.tells c.join_all.new.doors) g.E.Give.Source.tells g.E.Take.Sink.tells c.args.desk c.join_all.new.desk c.in-Ok.sessions.items c.join_all.new.sessions.items
    (g.Y.Keeper.tells c.args.keeper.now) (g.Y.Keeper.tells c.serve_visits.new.keeper)) (g.C.Clock.tells c.args.clock.now) (g.C.Clock.tells c.join_all.new.clock) =
    then_answering _ _ _ (g.C.Clock.tells c.args.clock.now) (g.C.Clock.tells c.serve_visits.new.clock) (g.C.Clock.tells c.join_all.new.clock)
    (serve_stay g.E.Give.Source.tells g.E.Take.Sink.tells _ (g.E.Doors.tells c.args.doors.now) (g.E.Doors.tells c.serve_visits.new.doors) (g.E.Doors.tells c.join_all.new.doors) c.args.desk c.serve_visits.new.desk c.join_all.new.desk
    (g.Y.Keeper.tells c.args.keeper.now) (g.Y.Keeper.tells c.serve_visits.new.keeper) _ c.serve_visits.new.sessions.items c.join_all.new.sessions.items)
    c.serve_visits.ensures.notes c.join_all.ensures.notes in
    on_both c.keep_all.result _ _ _ (λ none unkept start told at is.
    answers_by _ _ (g.C.Clock.tells c.args.clock.now) (g.C.Clock.tells c.join_all.new.clock) all (λ asked serves.
    let first : AreServed start c.of-first.result.value.setup (g.E.Doors.tells c.args.doors.now) [] c.args.desk (g.Y.Keeper.tells c.args.keeper.now) g.E.Give.Source.tells g.E.Take.Sink.tells c.in-Ok.sessions.items =
    (record {
      count = 0;
      kept = record {
        noted = noted_first start _ (g.E.Doors.tells c.args.doors.now) c.args.desk (g.Y.Keeper.tells c.args.keeper.now) at c.requires.untold;
        begun = subst (λ ss. Each (λ s. IsBegun start (g.E.Doors.tells c.args.doors.now) [] s.begun s.side (ends_told g.E.Give.Source.tells g.E.Take.Sink.tells s.ends.value)) ss) (sym c.in-Ok.ensures.items) tt;
      };
    }) in
    let had = serves start [] first in
    subst (λ (r : RunnerTold). NotesAndAnswers r.setup start asked told (g.Y.Keeper.tells c.keep_all.new.keeper)) c.of-first.ensures (noted_ends start c.of-first.result.value.setup (g.E.Doors.tells c.join_all.new.doors) asked c.join_all.new.desk c.keep_all.new.self (g.Y.Keeper.tells c.serve_visits.new.keeper) (g.Y.Keeper.tells c.keep_all.new.keeper)
    had.count had.kept.noted c.keep_all.ensures.keeps none unkept told is))) c.keep_all.ensures.all c.keep_all.ensures.unkept

pub returns-clause-four : goal.returns-clause-four
returns-clause-four g c failed =
    rose_sooner (g.Y.Keeper.tells c.args.keeper.now).faults (g.Y.Keeper.tells c.serve_visits.new.keeper).faults (g.Y.Keeper.tells c.keep_all.new.keeper).faults
    c.serve_visits.ensures.faults (c.keep_all.ensures.failed failed)

-- ---- its book

pub serve_visits-requires-clause-books : goal.serve_visits-requires-clause-books
serve_visits-requires-clause-books g c κs within =
    subst (λ ss. AreBooked g.row.E-Give.Denot c.of-first.result.value.setup c.of-first.result.value.book (g.E.Doors.tells c.args.doors.now) c.args.runner.now.book (lents g.E.Give.Source.tells g.E.Take.Sink.tells ss)) (sym c.in-Ok.ensures.items)
    (subst (λ (r : RunnerTold). AreBooked g.row.E-Give.Denot c.of-first.result.value.setup c.of-first.result.value.book (g.E.Doors.tells c.args.doors.now) r.book []) c.of-first.ensures
    (are_started g.row.E-Give.Denot c.of-first.result.value.setup c.of-first.result.value.book (g.E.Doors.tells c.args.doors.now) c.requires.untold))

pub returns-clause-book : goal.returns-clause-book
returns-clause-book g c =
    on_ok c.keep_all.result _ (λ others told new is.
    subst (λ (r : RunnerTold). ServedBook g.row.E-Give.Denot r.setup told) c.of-first.ensures
    (booked_served g.row.E-Give.Denot c.of-first.result.value.setup told c.join_all.new.runner.book c.end_lending.ensures.heard
    (c.join_all.ensures.books others (ap (λ (r : RunnerTold). r.book) c.of-first.ensures ∙ new) told is)))
