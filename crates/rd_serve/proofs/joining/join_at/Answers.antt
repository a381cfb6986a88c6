use Rattle.rd_serve.proofs.Outs.{out_holds, out_is, out_left, keeps_promise}
use Rattle.rd_serve.proofs.Live.{live_holds, live_keepable, live_left, kept_left}
use Rattle.rd_serve.proofs.Answering.{by_answers}
use Rattle.rd_doors.specs.Visits.{ends_told}
use Rattle.rd_serve.specs.Booking.{lents}
use Rattle.rd_serve.proofs.Booking.{are_taken, keeps_book}
use Rattle.rd_serve.proofs.joining.join_at.Goals as goal

pub give_back-requires-clause-out : goal.give_back-requires-clause-out
give_back-requires-clause-out g c κs within =
    out_holds g.E.Give.Source.tells g.E.Take.Sink.tells c.args.first.now.value.setup (g.E.Doors.tells c.args.doors.now) c.args.waiting c.args.sessions.now.items c.args.place c.remove-number.result c.requires.out c.requires.place c.remove-number.ensures.value

pub returns-clause-out : goal.returns-clause-out
returns-clause-out g c =
    out_left g.E.Give.Source.tells g.E.Take.Sink.tells c.args.first.now.value.setup (g.E.Doors.tells c.args.doors.now) (g.E.Doors.tells c.give_back.new.doors) c.args.waiting c.args.sessions.now.items c.remove-number.new.self.items c.args.place c.remove-number.result c.requires.out c.requires.place c.remove-number.ensures.value c.remove-number.ensures.by_index.2 c.give_back.ensures.out c.give_back.ensures.keeps

pub give_back-requires-clause-given : goal.give_back-requires-clause-given
give_back-requires-clause-given g c κs within =
    (out_is g.E.Give.Source.tells g.E.Take.Sink.tells c.args.first.now.value.setup (g.E.Doors.tells c.args.doors.now) c.args.waiting c.args.sessions.now.items c.args.place c.remove-number.result c.requires.out c.requires.place c.remove-number.ensures.value).given

pub give_back-requires-clause-kept : goal.give_back-requires-clause-kept
give_back-requires-clause-kept g c κs within =
    keeps_promise g.E.Give.Source.tells g.E.Take.Sink.tells c.args.first.now.value.setup (g.E.Doors.tells c.args.doors.now) c.remove-number.result c.join-served.result
    (out_is g.E.Give.Source.tells g.E.Take.Sink.tells c.args.first.now.value.setup (g.E.Doors.tells c.args.doors.now) c.args.waiting c.args.sessions.now.items c.args.place c.remove-number.result c.requires.out c.requires.place c.remove-number.ensures.value)
    c.join-served.ensures.0

-- ---- its id and its note

pub give_back-requires-clause-live : goal.give_back-requires-clause-live
give_back-requires-clause-live g c κs within = live_holds c.args.desk.now.ids c.args.sessions.now.items c.args.place c.remove-number.result c.requires.live c.requires.place c.remove-number.ensures.value

pub give_back-requires-clause-keepable : goal.give_back-requires-clause-keepable
give_back-requires-clause-keepable g c κs within = live_keepable c.args.desk.now.ids c.args.sessions.now.items c.args.place c.remove-number.result c.requires.live c.requires.place c.remove-number.ensures.value

pub returns-clause-live : goal.returns-clause-live
returns-clause-live g c =
    live_left c.args.desk.now.ids c.give_back.new.desk.ids c.args.sessions.now.items c.remove-number.new.self.items c.args.place c.remove-number.result c.requires.live c.requires.place c.remove-number.ensures.value c.remove-number.ensures.by_index.2 c.give_back.ensures.ids

pub returns-clause-notes : goal.returns-clause-notes
returns-clause-notes g c =
    by_answers _ _ (g.C.Clock.tells c.args.clock.now) (g.C.Clock.tells c.give_back.new.clock) (λ more back start asked keeper count wait kept.
    kept_left g.E.Give.Source.tells g.E.Take.Sink.tells start c.args.first.now.value.setup (g.E.Doors.tells c.args.doors.now) (g.E.Doors.tells c.give_back.new.doors) asked more c.args.desk.now c.give_back.new.desk keeper count wait
    c.args.sessions.now.items c.remove-number.new.self.items c.args.place c.remove-number.result c.requires.place c.remove-number.ensures.value c.remove-number.ensures.by_index.2 c.give_back.ensures.keeps (back start asked keeper count wait) kept)
    c.give_back.ensures.notes

-- ---- its book

pub returns-clause-books : goal.returns-clause-books
returns-clause-books g c =
    let s = c.remove-number.result in
    let out = out_is g.E.Give.Source.tells g.E.Take.Sink.tells c.args.first.now.value.setup (g.E.Doors.tells c.args.doors.now) c.args.waiting c.args.sessions.now.items c.args.place s c.requires.out c.requires.place c.remove-number.ensures.value in
    c.give_back.ensures.books s.handle.promise.runner.value.book (lents g.E.Give.Source.tells g.E.Take.Sink.tells c.remove-number.new.self.items)
    (keeps_book g.E.Give.Source.tells g.E.Take.Sink.tells c.args.first.now.value.setup (g.E.Doors.tells c.args.doors.now) s c.join-served.result out c.join-served.ensures.1)
    (are_taken g.row.E-Give.Denot c.args.first.now.value.setup (λ x. record { side = x.side; ends = ends_told g.E.Give.Source.tells g.E.Take.Sink.tells x.ends.value; book = x.handle.promise.runner.value.book }) c.args.first.now.value.book (g.E.Doors.tells c.args.doors.now) c.args.runner.now.book
    c.args.sessions.now.items c.remove-number.new.self.items c.args.place s c.requires.place c.remove-number.ensures.value c.remove-number.ensures.by_index.2 c.requires.books)
