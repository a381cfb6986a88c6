use Rattle.std.proofs.Common.{◌≡◌, ◌≤◌, None}
use Rattle.rd_run_session.specs.CameTo.{CameTo}
use Rattle.rd_serve.specs.Serving.{Tells}
use Rattle.rd_serve.specs.Counting.{CountedBy}
use Rattle.rd_serve.specs.Booking.{AreBooked, lents}
use Rattle.rd_serve.specs.Noting.{AreLive, NotesServe}
use Rattle.rd_serve.specs.Operators.{Answering}
use Rattle.rd_serve.specs.Sessions.{AreOut, HasRoom}
use Rattle.rd_serve.proofs.server.serve_visits.Given as goal

abbrev pub invariant-loop : goal.invariant-loop
invariant-loop g l =
    Tells (CameTo g.row.E-Give.Denot) l.first.value.setup (g.E.Doors.tells l.doors)
    × CountedBy l.first.value l.runner (g.E.Doors.tells l.doors)
    × AreOut g.E.Give.Source.tells g.E.Take.Sink.tells l.first.value.setup (g.E.Doors.tells l.doors) None l.sessions.items
    × HasRoom l.sessions l.flags
    × AreLive l.desk.ids l.sessions.items
    × Answering (NotesServe l.first.value.setup (g.E.Doors.tells l.initial.doors) (g.E.Doors.tells l.doors) g.E.Give.Source.tells g.E.Take.Sink.tells l.initial.desk l.desk l.initial.sessions.items l.sessions.items
    (g.Y.Keeper.tells l.initial.keeper) (g.Y.Keeper.tells l.keeper)) (g.C.Clock.tells l.initial.clock) (g.C.Clock.tells l.clock)
    × ((g.Y.Keeper.tells l.initial.keeper).faults ≤ (g.Y.Keeper.tells l.keeper).faults)
    × AreBooked g.row.E-Give.Denot l.first.value.setup l.first.value.book (g.E.Doors.tells l.doors) l.runner.book (lents g.E.Give.Source.tells g.E.Take.Sink.tells l.sessions.items)
