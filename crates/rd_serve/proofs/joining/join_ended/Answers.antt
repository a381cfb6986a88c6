use Rattle.std.proofs.Common.{refl, ◌∙◌}
use Rattle.rd_serve.proofs.Answering.{then_answering, unasked, stay_then, stay_none}
use Rattle.rd_serve.proofs.Telling.{keeps_same, keeps_then}
use Rattle.rd_serve.proofs.joining.join_ended.Goals as goal

pub loop-count-preserved : goal.loop-count-preserved
loop-count-preserved g c = (
  c.join_at.ensures.tells,
  c.join_at.ensures.counts,
  c.join_at.ensures.out,
  c.join_at.ensures.room,
  c.join_at.ensures.over ∙ c.loop-count.invariant.4,
  keeps_then (g.E.Doors.tells c.args.doors.now) (g.E.Doors.tells c.loop-count.doors) (g.E.Doors.tells c.join_at.new.doors) c.loop-count.invariant.5 c.join_at.ensures.keeps,
  c.join_at.ensures.live,
  then_answering _ _ _ (g.C.Clock.tells c.args.clock.now) (g.C.Clock.tells c.loop-count.clock) (g.C.Clock.tells c.join_at.new.clock)
      (stay_then g.E.Give.Source.tells g.E.Take.Sink.tells c.args.first.now.value.setup (g.E.Doors.tells c.args.doors.now) (g.E.Doors.tells c.loop-count.doors) (g.E.Doors.tells c.join_at.new.doors)
      c.args.desk.now c.loop-count.desk c.join_at.new.desk c.args.sessions.now.items c.loop-count.sessions.items c.join_at.new.sessions.items) c.loop-count.invariant.7 c.join_at.ensures.notes,
  c.join_at.ensures.books,
)

pub loop-count-init : goal.loop-count-init
loop-count-init g c = (
  c.requires.tells,
  c.requires.counts,
  c.requires.out,
  c.requires.room,
  refl,
  keeps_same (g.E.Doors.tells c.args.doors.now) (g.E.Doors.tells c.args.doors.now) refl,
  c.requires.live,
  unasked _ (g.C.Clock.tells c.args.clock.now) (stay_none g.E.Give.Source.tells g.E.Take.Sink.tells c.args.first.now.value.setup (g.E.Doors.tells c.args.doors.now) c.args.desk.now c.args.sessions.now.items),
  c.requires.books,
)
