use Rattle.std.proofs.Common.{◌≡◌, None, vec_len}
use Rattle.rd_run_session.specs.CameTo.{CameTo}
use Rattle.rd_serve.specs.Serving.{Tells}
use Rattle.rd_serve.specs.Counting.{CountedBy}
use Rattle.rd_serve.specs.Booking.{AreBooked, lents}
use Rattle.rd_serve.specs.Noting.{AreLive, NotesStay}
use Rattle.rd_serve.specs.Operators.{Answering}
use Rattle.rd_serve.specs.Sessions.{AreOut, HasRoom, KeepsTold}
use Rattle.rd_serve.proofs.joining.join_all.Given as goal

abbrev pub invariant-loop-rt : goal.invariant-loop-rt
invariant-loop-rt g l =
    Tells (CameTo g.row.E-Give.Denot) l.first.value.setup (g.E.Doors.tells l.doors)
    × CountedBy l.first.value l.runner (g.E.Doors.tells l.doors)
    × AreOut g.E.Give.Source.tells g.E.Take.Sink.tells l.first.value.setup (g.E.Doors.tells l.doors) None l.sessions.items
    × HasRoom l.sessions l.flags
    × ((g.E.Doors.tells l.doors).is_over ≡ (g.E.Doors.tells l.initial.doors).is_over)
    × KeepsTold (g.E.Doors.tells l.initial.doors) (g.E.Doors.tells l.doors)
    × AreLive l.desk.ids l.sessions.items
    × Answering (NotesStay l.first.value.setup (g.E.Doors.tells l.initial.doors) (g.E.Doors.tells l.doors) g.E.Give.Source.tells g.E.Take.Sink.tells l.initial.desk l.desk l.initial.sessions.items l.sessions.items)
    (g.C.Clock.tells l.initial.clock) (g.C.Clock.tells l.clock)
    × AreBooked g.row.E-Give.Denot l.first.value.setup l.first.value.book (g.E.Doors.tells l.doors) l.runner.book (lents g.E.Give.Source.tells g.E.Take.Sink.tells l.sessions.items)

abbrev pub decreases-loop-rt : goal.decreases-loop-rt
decreases-loop-rt g l = vec_len l.sessions
