use Rattle.rd_doors.specs.Visits.{Gave, ends_told}
use Rattle.rd_serve.proofs.Telling.{keeps_has}
use Rattle.rd_serve.proofs.Answering.{then_answering, visit_then}
use Rattle.rd_serve.proofs.Noting.{next_kept}
use Rattle.rd_serve.proofs.server.receive.Goals as goal

pub take_in-requires-clause-given : goal.take_in-requires-clause-given
take_in-requires-clause-given g c κs within = keeps_has (g.E.Doors.tells c.args.doors.now) (g.E.Doors.tells c.join_ended.new.doors) (Gave c.args.side (ends_told g.E.Give.Source.tells g.E.Take.Sink.tells c.args.ends)) c.join_ended.ensures.keeps c.requires.given

pub returns-clause-notes : goal.returns-clause-notes
returns-clause-notes g c =
    then_answering _ _ _ (g.C.Clock.tells c.args.clock.now) (g.C.Clock.tells c.join_ended.new.clock) (g.C.Clock.tells c.take_in.new.clock)
    (λ xs ys. visit_then g.E.Give.Source.tells g.E.Take.Sink.tells c.args.first.now.value.setup (g.E.Doors.tells c.args.doors.now) (g.E.Doors.tells c.join_ended.new.doors) (g.E.Doors.tells c.take_in.new.doors)
    c.args.desk.now c.join_ended.new.desk c.take_in.new.desk c.args.sessions.now.items c.join_ended.new.sessions.items c.take_in.new.sessions.items c.args.side (ends_told g.E.Give.Source.tells g.E.Take.Sink.tells c.args.ends) xs ys
    (λ count. next_kept (g.E.Doors.tells c.args.doors.now) (g.E.Doors.tells c.join_ended.new.doors) count c.args.side (ends_told g.E.Give.Source.tells g.E.Take.Sink.tells c.args.ends) c.join_ended.ensures.keeps))
    c.join_ended.ensures.notes c.take_in.ensures.notes
