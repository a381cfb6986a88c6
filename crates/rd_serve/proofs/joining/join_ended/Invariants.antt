use Rattle.std.proofs.Common.{◌≡◌}
use Rattle.rd_run_session.specs.CameTo.{CameTo}
use Rattle.rd_serve.specs.Serving.{Tells}
use Rattle.rd_serve.specs.Counting.{CountedBy}
use Rattle.rd_serve.specs.Booking.{AreBooked, lents}
use Rattle.rd_serve.specs.Noting.{AreLive, NotesStay}
use Rattle.rd_serve.specs.Operators.{Answering}
use Rattle.rd_serve.specs.Sessions.{AreOut, HasRoom, KeepsTold}
use Rattle.rd_serve.proofs.joining.join_ended.Given as goal

abbrev pub invariant-loop-count : goal.invariant-loop-count
invariant-loop-count g l =
    Tells (CameTo g.row.E-Give.Denot) l.fn.first.value.setup (g.E.Doors.tells l.doors)
    × CountedBy l.fn.first.value l.runner (g.E.Doors.tells l.doors)
    × AreOut g.E.Give.Source.tells g.E.Take.Sink.tells l.fn.first.value.setup (g.E.Doors.tells l.doors) l.fn.waiting l.sessions.items
    × HasRoom l.sessions l.flags
    × ((g.E.Doors.tells l.doors).is_over ≡ (g.E.Doors.tells l.initial.doors).is_over)
    × KeepsTold (g.E.Doors.tells l.initial.doors) (g.E.Doors.tells l.doors)
    × AreLive l.desk.ids l.sessions.items
    × Answering (NotesStay l.fn.first.value.setup (g.E.Doors.tells l.initial.doors) (g.E.Doors.tells l.doors) g.E.Give.Source.tells g.E.Take.Sink.tells l.initial.desk l.desk l.initial.sessions.items l.sessions.items)
    (g.C.Clock.tells l.initial.clock) (g.C.Clock.tells l.clock)
    × AreBooked g.row.E-Give.Denot l.fn.first.value.setup l.fn.first.value.book (g.E.Doors.tells l.doors) l.runner.book (lents g.E.Give.Source.tells g.E.Take.Sink.tells l.sessions.items)
