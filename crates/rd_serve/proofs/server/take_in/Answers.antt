use Rattle.std.proofs.Common.{refl, sym, subst, append-nil}
use Rattle.rd_doors.specs.Visits.{TurnedAway, ends_told}
use Rattle.rd_serve.proofs.Outs.{waiting_holds, waiting_ended}
use Rattle.rd_serve.proofs.Noting.{noted_quiet}
use Rattle.rd_serve.specs.Noting.{AreKept}
use Rattle.rd_serve.proofs.Answering.{unasked}
use Rattle.rd_serve.proofs.Live.{kept_still}
use Rattle.rd_serve.specs.Booking.{lents}
use Rattle.rd_serve.proofs.Booking.{are_quiet}
use Rattle.rd_serve.proofs.server.take_in.Goals as goal

pub turn_away-requires-clause-out : goal.turn_away-requires-clause-out
turn_away-requires-clause-out g c κs within = waiting_holds g.E.Give.Source.tells g.E.Take.Sink.tells c.args.first.now.value.setup (g.E.Doors.tells c.args.doors.now) c.args.ends.number c.args.sessions.now.items c.requires.out

pub returns-in_default-clause-out : goal.returns-in_default-clause-out
returns-in_default-clause-out g c =
    waiting_ended g.E.Give.Source.tells g.E.Take.Sink.tells c.args.first.now.value.setup (g.E.Doors.tells c.args.doors.now) (g.E.Doors.tells c.turn_away.new.doors) c.args.ends.number c.args.sessions.now.items
    c.requires.out c.turn_away.ensures.out c.turn_away.ensures.keeps

pub returns-in_default-clause-notes : goal.returns-in_default-clause-notes
returns-in_default-clause-notes g c =
    unasked _ (g.C.Clock.tells c.args.clock.now) (λ start asked keeper count kept next. record {
      count = count;
      kept = subst (λ l. AreKept start c.args.first.now.value.setup (g.E.Doors.tells c.turn_away.new.doors) l c.args.desk.now keeper count 0 g.E.Give.Source.tells g.E.Take.Sink.tells c.args.sessions.now.items) (sym (append-nil asked))
          (kept_still g.E.Give.Source.tells g.E.Take.Sink.tells start c.args.first.now.value.setup (g.E.Doors.tells c.args.doors.now) (g.E.Doors.tells c.turn_away.new.doors) asked c.args.desk.now c.args.desk.now keeper keeper count count 1 0 c.args.sessions.now.items c.turn_away.ensures.keeps
          (noted_quiet start c.args.first.now.value.setup (g.E.Doors.tells c.args.doors.now) (g.E.Doors.tells c.turn_away.new.doors) (TurnedAway (ends_told g.E.Give.Source.tells g.E.Take.Sink.tells c.args.ends)) asked c.args.desk.now keeper count 1 0 c.turn_away.ensures.told refl refl (λ before. tt) refl kept.noted) kept);
    })

pub returns-in_default-clause-books : goal.returns-in_default-clause-books
returns-in_default-clause-books g c =
    are_quiet g.row.E-Give.Denot c.args.first.now.value.setup c.args.first.now.value.book (g.E.Doors.tells c.args.doors.now) (g.E.Doors.tells c.turn_away.new.doors) (TurnedAway (ends_told g.E.Give.Source.tells g.E.Take.Sink.tells c.args.ends)) c.args.runner.now.book (lents g.E.Give.Source.tells g.E.Take.Sink.tells c.args.sessions.now.items)
    c.turn_away.ensures.told refl c.requires.books
