use Rattle.std.proofs.lemmas.Bool.Decides.{nat_tests}
use Rattle.std.proofs.Common.{subst, arith, refl, ◌∙◌}
use Rattle.rd_serve.proofs.Answering.{then_answering, unasked, stay_then, stay_none}
use Rattle.rd_serve.proofs.Telling.{keeps_same, keeps_then}
use Rattle.rd_serve.specs.Booking.{AreBooked, lents}
use Rattle.rd_serve.proofs.Booking.{none_left}
use Rattle.rd_serve.proofs.joining.join_all.Goals as goal

pub loop-rt-preserved : goal.loop-rt-preserved
loop-rt-preserved g c = (
  c.join_at.ensures.tells,
  c.join_at.ensures.counts,
  c.join_at.ensures.out,
  c.join_at.ensures.room,
  c.join_at.ensures.over ∙ c.loop-rt.invariant.4,
  keeps_then (g.E.Doors.tells c.args.doors.now) (g.E.Doors.tells c.loop-rt.doors) (g.E.Doors.tells c.join_at.new.doors) c.loop-rt.invariant.5 c.join_at.ensures.keeps,
  c.join_at.ensures.live,
  then_answering _ _ _ (g.C.Clock.tells c.args.clock.now) (g.C.Clock.tells c.loop-rt.clock) (g.C.Clock.tells c.join_at.new.clock)
      (stay_then g.E.Give.Source.tells g.E.Take.Sink.tells c.args.first.now.value.setup (g.E.Doors.tells c.args.doors.now) (g.E.Doors.tells c.loop-rt.doors) (g.E.Doors.tells c.join_at.new.doors)
      c.args.desk.now c.loop-rt.desk c.join_at.new.desk c.args.sessions.now.items c.loop-rt.sessions.items c.join_at.new.sessions.items) c.loop-rt.invariant.7 c.join_at.ensures.notes,
  c.join_at.ensures.books,
)

pub loop-rt-init : goal.loop-rt-init
loop-rt-init g c = (
  c.requires.tells,
  c.requires.counts,
  c.requires.out,
  c.requires.room,
  refl,
  keeps_same (g.E.Doors.tells c.args.doors.now) (g.E.Doors.tells c.args.doors.now) refl,
  c.requires.live,
  unasked _ (g.C.Clock.tells c.args.clock.now) (stay_none g.E.Give.Source.tells g.E.Take.Sink.tells c.args.first.now.value.setup (g.E.Doors.tells c.args.doors.now) c.args.desk.now c.args.sessions.now.items),
  c.requires.books,
)

pub returns-clause-books : goal.returns-clause-books
returns-clause-books g c =
    subst (λ ss. AreBooked g.row.E-Give.Denot c.args.first.now.value.setup c.args.first.now.value.book (g.E.Doors.tells c.loop-rt.doors) c.loop-rt.runner.book (lents g.E.Give.Source.tells g.E.Take.Sink.tells ss))
    (none_left c.loop-rt.sessions.items (let is = c.is_empty.ensures in let test = c.loop-rt-test.false in let more = c.loop-rt-test.ensures in let ok = c.loop-rt.sessions.ok.0 in grind (arith, nat_tests))) c.loop-rt.invariant.8
