use Rattle.std.proofs.Common.{◌≤◌, [], refl, sym, subst, arith, append-nil}
use Rattle.rd_serve.specs.Noting.{AreLive}
use Rattle.rd_serve.proofs.Answering.{then_answering, by_answers, unasked, serve_then, serve_stay, serve_none}
use Rattle.rd_serve.proofs.Live.{serve_put}
use Rattle.rd_serve.proofs.server.serve_visits.Goals as goal

pub loop-preserved : goal.loop-preserved
loop-preserved g c = (
  c.join_ended.ensures.tells,
  c.join_ended.ensures.counts,
  c.join_ended.ensures.out,
  c.join_ended.ensures.room,
  subst (λ ids. AreLive ids c.join_ended.new.sessions.items) (sym c.keep_some-put.ensures.keeps.ids) c.join_ended.ensures.live,
  by_answers _ _ (g.C.Clock.tells c.args.clock.now) (g.C.Clock.tells c.join_ended.new.clock)
      (λ more. serve_put g.E.Give.Source.tells g.E.Take.Sink.tells _ 16 (g.E.Doors.tells c.args.doors.now) (g.E.Doors.tells c.join_ended.new.doors) c.args.desk.now c.join_ended.new.desk c.keep_some-put.new.self
      (g.Y.Keeper.tells c.args.keeper.now) (g.Y.Keeper.tells c.serve_visit-over.new.keeper) (g.Y.Keeper.tells c.keep_some-put.new.keeper) c.args.sessions.now.items c.join_ended.new.sessions.items more c.keep_some-put.ensures.keeps)
      (then_answering _ _ _ (g.C.Clock.tells c.args.clock.now) (g.C.Clock.tells c.serve_visit-over.new.clock) (g.C.Clock.tells c.join_ended.new.clock)
      (serve_stay g.E.Give.Source.tells g.E.Take.Sink.tells _ (g.E.Doors.tells c.args.doors.now) (g.E.Doors.tells c.serve_visit-over.new.doors) (g.E.Doors.tells c.join_ended.new.doors) c.args.desk.now c.serve_visit-over.new.desk c.join_ended.new.desk
      (g.Y.Keeper.tells c.args.keeper.now) (g.Y.Keeper.tells c.serve_visit-over.new.keeper) c.args.sessions.now.items c.serve_visit-over.new.sessions.items c.join_ended.new.sessions.items)
      (then_answering _ _ _ (g.C.Clock.tells c.args.clock.now) (g.C.Clock.tells c.loop.clock) (g.C.Clock.tells c.serve_visit-over.new.clock)
      (serve_then g.E.Give.Source.tells g.E.Take.Sink.tells _ (g.E.Doors.tells c.args.doors.now) (g.E.Doors.tells c.loop.doors) (g.E.Doors.tells c.serve_visit-over.new.doors) c.args.desk.now c.loop.desk c.serve_visit-over.new.desk
      (g.Y.Keeper.tells c.args.keeper.now) (g.Y.Keeper.tells c.loop.keeper) (g.Y.Keeper.tells c.serve_visit-over.new.keeper) c.args.sessions.now.items c.loop.sessions.items c.serve_visit-over.new.sessions.items)
      c.loop.invariant.5 c.serve_visit-over.ensures.notes) c.join_ended.ensures.notes),
  (let one = c.loop.invariant.6 in let two = c.serve_visit-over.ensures.faults in let three = c.keep_some-put.ensures.keeps.faults in omega arith),
  c.join_ended.ensures.books,
)

pub returns-then-over-clause-notes : goal.returns-then-over-clause-notes
returns-then-over-clause-notes g c =
    then_answering _ _ _ (g.C.Clock.tells c.args.clock.now) (g.C.Clock.tells c.loop.clock) (g.C.Clock.tells c.serve_visit-over.new.clock)
    (serve_then g.E.Give.Source.tells g.E.Take.Sink.tells _ (g.E.Doors.tells c.args.doors.now) (g.E.Doors.tells c.loop.doors) (g.E.Doors.tells c.serve_visit-over.new.doors) c.args.desk.now c.loop.desk c.serve_visit-over.new.desk
    (g.Y.Keeper.tells c.args.keeper.now) (g.Y.Keeper.tells c.loop.keeper) (g.Y.Keeper.tells c.serve_visit-over.new.keeper) c.args.sessions.now.items c.loop.sessions.items c.serve_visit-over.new.sessions.items)
    c.loop.invariant.5 c.serve_visit-over.ensures.notes

pub loop-init : goal.loop-init
loop-init g c = (
  c.requires.tells,
  c.requires.counts,
  c.requires.out,
  c.requires.room,
  c.requires.live,
  unasked _ (g.C.Clock.tells c.args.clock.now) (serve_none g.E.Give.Source.tells g.E.Take.Sink.tells _ (g.E.Doors.tells c.args.doors.now) c.args.desk.now (g.Y.Keeper.tells c.args.keeper.now) c.args.sessions.now.items),
  omega arith,
  c.requires.books,
)
