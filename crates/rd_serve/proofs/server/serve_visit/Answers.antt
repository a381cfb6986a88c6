use Rattle.std.proofs.Common.{◌≡◌, arith, None, length, refl, sym, ap, ◌∙◌}
use Rattle.rd_base.specs.declared.values.Side.TheVariants.{Incoming, Outgoing}
use Rattle.rd_doors.specs.Visits.{Gave, ends_told, out_of}
use Rattle.rd_run_session.specs.CameTo.{CameTo}
use Rattle.rd_serve.proofs.Telling.{tells_more, tells_same, keeps_more, keeps_same, keeps_then, gains}
use Rattle.rd_serve.proofs.Counted.{counted_quiet, counted_same}
use Rattle.rd_serve.proofs.Outs.{waiting_came, still_out}
use Rattle.rd_serve.proofs.Noting.{noted_quiet, noted_same, noted_operator, came_next}
use Rattle.rd_serve.proofs.Times.{all_accounted}
use Rattle.rd_serve.proofs.Answering.{unasked, by_answers}
use Rattle.rd_serve.proofs.Live.{kept_still, serve_quiet}
use Rattle.rd_serve.specs.Booking.{lents}
use Rattle.rd_serve.proofs.Booking.{are_quiet, are_same}
use Rattle.rd_serve.proofs.server.serve_visit.Goals as goal

-- ---- Client

pub receive-requires-clause-tells : goal.receive-requires-clause-tells
receive-requires-clause-tells g c κs within =
    tells_more (CameTo g.row.E-Give.Denot) c.args.first.now.value.setup (g.E.Doors.tells c.args.doors.now) (g.E.Doors.tells c.next_visit.new.self) _ c.requires.tells c.in-Client.ensures.told c.in-Client.ensures.out c.in-Client.ensures.copies (λ t was.
    let same : length (out_of t) ≡ length (g.E.Doors.tells c.args.doors.now).out = sym (ap length (c.requires.tells.out t was)) in
    let count = c.requires.out.count in
    let room = c.requires.room.count in
    let len = c.args.sessions.now.ok.0 in
    (omega arith, c.in-Client.ensures.may.1 c.args.first.now.value.setup.limits.copies c.requires.tells.copies))

pub receive-requires-clause-counts : goal.receive-requires-clause-counts
receive-requires-clause-counts g c κs within =
    counted_quiet c.args.first.now.value c.args.runner.now (g.E.Doors.tells c.args.doors.now) (g.E.Doors.tells c.next_visit.new.self) _ c.requires.counts c.in-Client.ensures.told (λ f. refl) (λ P. tt)

pub receive-requires-clause-out : goal.receive-requires-clause-out
receive-requires-clause-out g c κs within =
    waiting_came g.E.Give.Source.tells g.E.Take.Sink.tells c.args.first.now.value.setup (g.E.Doors.tells c.args.doors.now) (g.E.Doors.tells c.next_visit.new.self) c.in-Client.ends.number c.args.sessions.now.items c.requires.out c.in-Client.ensures.out (keeps_more (g.E.Doors.tells c.args.doors.now) (g.E.Doors.tells c.next_visit.new.self) _ c.in-Client.ensures.told)

pub receive-requires-clause-fresh : goal.receive-requires-clause-fresh
receive-requires-clause-fresh g c κs within = c.in-Client.ensures.may.1 c.args.first.now.value.setup.limits.copies c.requires.tells.copies

pub receive-requires-clause-given : goal.receive-requires-clause-given
receive-requires-clause-given g c κs within = gains (g.E.Doors.tells c.args.doors.now) (g.E.Doors.tells c.next_visit.new.self) _ c.in-Client.ensures.told

-- ---- Callers

pub receive-requires-in-Callers-clause-tells : goal.receive-requires-in-Callers-clause-tells
receive-requires-in-Callers-clause-tells g c κs within =
    tells_more (CameTo g.row.E-Give.Denot) c.args.first.now.value.setup (g.E.Doors.tells c.args.doors.now) (g.E.Doors.tells c.next_visit.new.self) _ c.requires.tells c.in-Callers.ensures.told c.in-Callers.ensures.out c.in-Callers.ensures.copies (λ t was.
    let same : length (out_of t) ≡ length (g.E.Doors.tells c.args.doors.now).out = sym (ap length (c.requires.tells.out t was)) in
    let count = c.requires.out.count in
    let room = c.requires.room.count in
    let len = c.args.sessions.now.ok.0 in
    (omega arith, c.in-Callers.ensures.may.1 c.args.first.now.value.setup.limits.copies c.requires.tells.copies))

pub receive-requires-in-Callers-clause-counts : goal.receive-requires-in-Callers-clause-counts
receive-requires-in-Callers-clause-counts g c κs within =
    counted_quiet c.args.first.now.value c.args.runner.now (g.E.Doors.tells c.args.doors.now) (g.E.Doors.tells c.next_visit.new.self) _ c.requires.counts c.in-Callers.ensures.told (λ f. refl) (λ P. tt)

pub receive-requires-in-Callers-clause-out : goal.receive-requires-in-Callers-clause-out
receive-requires-in-Callers-clause-out g c κs within =
    waiting_came g.E.Give.Source.tells g.E.Take.Sink.tells c.args.first.now.value.setup (g.E.Doors.tells c.args.doors.now) (g.E.Doors.tells c.next_visit.new.self) c.in-Callers.ends.number c.args.sessions.now.items c.requires.out c.in-Callers.ensures.out (keeps_more (g.E.Doors.tells c.args.doors.now) (g.E.Doors.tells c.next_visit.new.self) _ c.in-Callers.ensures.told)

pub receive-requires-in-Callers-clause-fresh : goal.receive-requires-in-Callers-clause-fresh
receive-requires-in-Callers-clause-fresh g c κs within = c.in-Callers.ensures.may.1 c.args.first.now.value.setup.limits.copies c.requires.tells.copies

pub receive-requires-in-Callers-clause-given : goal.receive-requires-in-Callers-clause-given
receive-requires-in-Callers-clause-given g c κs within = gains (g.E.Doors.tells c.args.doors.now) (g.E.Doors.tells c.next_visit.new.self) _ c.in-Callers.ensures.told

-- ---- an operator

pub returns-in-Operator-clause-tells : goal.returns-in-Operator-clause-tells
returns-in-Operator-clause-tells g c =
    tells_more (CameTo g.row.E-Give.Denot) c.args.first.now.value.setup (g.E.Doors.tells c.next_visit.new.self) (g.E.Doors.tells c.answer.new.doors) _ (tells_more (CameTo g.row.E-Give.Denot) c.args.first.now.value.setup (g.E.Doors.tells c.args.doors.now) (g.E.Doors.tells c.next_visit.new.self) _ c.requires.tells c.in-Operator.ensures.told c.in-Operator.ensures.out c.in-Operator.ensures.copies (λ t was. tt)) c.answer.ensures.answers.back.told c.answer.ensures.answers.back.out c.answer.ensures.answers.back.copies (λ t was. tt)

pub returns-in-Operator-clause-counts : goal.returns-in-Operator-clause-counts
returns-in-Operator-clause-counts g c =
    let now = c.args.runner.now in
    counted_quiet c.args.first.now.value now (g.E.Doors.tells c.next_visit.new.self) (g.E.Doors.tells c.answer.new.doors) _ (counted_quiet c.args.first.now.value now (g.E.Doors.tells c.args.doors.now) (g.E.Doors.tells c.next_visit.new.self) _ c.requires.counts c.in-Operator.ensures.told (λ f. refl) (λ P. tt)) c.answer.ensures.answers.back.told (λ f. refl) (λ P. tt)

pub returns-in-Operator-clause-out : goal.returns-in-Operator-clause-out
returns-in-Operator-clause-out g c =
    still_out g.E.Give.Source.tells g.E.Take.Sink.tells c.args.first.now.value.setup (g.E.Doors.tells c.args.doors.now) (g.E.Doors.tells c.answer.new.doors) None c.args.sessions.now.items c.requires.out (c.answer.ensures.answers.back.out ∙ c.in-Operator.ensures.out)
    (keeps_then (g.E.Doors.tells c.args.doors.now) (g.E.Doors.tells c.next_visit.new.self) (g.E.Doors.tells c.answer.new.doors)
    (keeps_more (g.E.Doors.tells c.args.doors.now) (g.E.Doors.tells c.next_visit.new.self) _ c.in-Operator.ensures.told)
    (keeps_more (g.E.Doors.tells c.next_visit.new.self) (g.E.Doors.tells c.answer.new.doors) _ c.answer.ensures.answers.back.told))

-- ---- Quiet

pub returns-in-Quiet-clause-tells : goal.returns-in-Quiet-clause-tells
returns-in-Quiet-clause-tells g c = tells_same (CameTo g.row.E-Give.Denot) c.args.first.now.value.setup (g.E.Doors.tells c.args.doors.now) (g.E.Doors.tells c.next_visit.new.self) c.requires.tells c.in-Quiet.ensures.told c.in-Quiet.ensures.out c.in-Quiet.ensures.copies

pub returns-in-Quiet-clause-counts : goal.returns-in-Quiet-clause-counts
returns-in-Quiet-clause-counts g c = counted_same c.args.first.now.value c.args.runner.now (g.E.Doors.tells c.args.doors.now) (g.E.Doors.tells c.next_visit.new.self) c.requires.counts c.in-Quiet.ensures.told

pub returns-in-Quiet-clause-out : goal.returns-in-Quiet-clause-out
returns-in-Quiet-clause-out g c = still_out g.E.Give.Source.tells g.E.Take.Sink.tells c.args.first.now.value.setup (g.E.Doors.tells c.args.doors.now) (g.E.Doors.tells c.next_visit.new.self) None c.args.sessions.now.items c.requires.out c.in-Quiet.ensures.out (keeps_same (g.E.Doors.tells c.args.doors.now) (g.E.Doors.tells c.next_visit.new.self) c.in-Quiet.ensures.told)

-- ---- Failed

pub returns-in-Failed-clause-tells : goal.returns-in-Failed-clause-tells
returns-in-Failed-clause-tells g c = tells_same (CameTo g.row.E-Give.Denot) c.args.first.now.value.setup (g.E.Doors.tells c.args.doors.now) (g.E.Doors.tells c.next_visit.new.self) c.requires.tells c.in-Failed.ensures.told c.in-Failed.ensures.out c.in-Failed.ensures.copies

pub returns-in-Failed-clause-counts : goal.returns-in-Failed-clause-counts
returns-in-Failed-clause-counts g c = counted_same c.args.first.now.value c.args.runner.now (g.E.Doors.tells c.args.doors.now) (g.E.Doors.tells c.next_visit.new.self) c.requires.counts c.in-Failed.ensures.told

pub returns-in-Failed-clause-out : goal.returns-in-Failed-clause-out
returns-in-Failed-clause-out g c = still_out g.E.Give.Source.tells g.E.Take.Sink.tells c.args.first.now.value.setup (g.E.Doors.tells c.args.doors.now) (g.E.Doors.tells c.next_visit.new.self) None c.args.sessions.now.items c.requires.out c.in-Failed.ensures.out (keeps_same (g.E.Doors.tells c.args.doors.now) (g.E.Doors.tells c.next_visit.new.self) c.in-Failed.ensures.told)

-- ---- NoMemory

pub returns-in-NoMemory-clause-tells : goal.returns-in-NoMemory-clause-tells
returns-in-NoMemory-clause-tells g c = tells_same (CameTo g.row.E-Give.Denot) c.args.first.now.value.setup (g.E.Doors.tells c.args.doors.now) (g.E.Doors.tells c.next_visit.new.self) c.requires.tells c.in-NoMemory.ensures.told c.in-NoMemory.ensures.out c.in-NoMemory.ensures.copies

pub returns-in-NoMemory-clause-counts : goal.returns-in-NoMemory-clause-counts
returns-in-NoMemory-clause-counts g c = counted_same c.args.first.now.value c.args.runner.now (g.E.Doors.tells c.args.doors.now) (g.E.Doors.tells c.next_visit.new.self) c.requires.counts c.in-NoMemory.ensures.told

pub returns-in-NoMemory-clause-out : goal.returns-in-NoMemory-clause-out
returns-in-NoMemory-clause-out g c = still_out g.E.Give.Source.tells g.E.Take.Sink.tells c.args.first.now.value.setup (g.E.Doors.tells c.args.doors.now) (g.E.Doors.tells c.next_visit.new.self) None c.args.sessions.now.items c.requires.out c.in-NoMemory.ensures.out (keeps_same (g.E.Doors.tells c.args.doors.now) (g.E.Doors.tells c.next_visit.new.self) c.in-NoMemory.ensures.told)

-- ---- Over

pub returns-in-Over-clause-tells : goal.returns-in-Over-clause-tells
returns-in-Over-clause-tells g c = tells_same (CameTo g.row.E-Give.Denot) c.args.first.now.value.setup (g.E.Doors.tells c.args.doors.now) (g.E.Doors.tells c.next_visit.new.self) c.requires.tells c.in-Over.ensures.told c.in-Over.ensures.out c.in-Over.ensures.copies

pub returns-in-Over-clause-counts : goal.returns-in-Over-clause-counts
returns-in-Over-clause-counts g c = counted_same c.args.first.now.value c.args.runner.now (g.E.Doors.tells c.args.doors.now) (g.E.Doors.tells c.next_visit.new.self) c.requires.counts c.in-Over.ensures.told

pub returns-in-Over-clause-out : goal.returns-in-Over-clause-out
returns-in-Over-clause-out g c = still_out g.E.Give.Source.tells g.E.Take.Sink.tells c.args.first.now.value.setup (g.E.Doors.tells c.args.doors.now) (g.E.Doors.tells c.next_visit.new.self) None c.args.sessions.now.items c.requires.out c.in-Over.ensures.out (keeps_same (g.E.Doors.tells c.args.doors.now) (g.E.Doors.tells c.next_visit.new.self) c.in-Over.ensures.told)

-- ---- notes

pub returns-in-Quiet-clause-notes : goal.returns-in-Quiet-clause-notes
returns-in-Quiet-clause-notes g c =
    unasked _ (g.C.Clock.tells c.args.clock.now) (serve_quiet g.E.Give.Source.tells g.E.Take.Sink.tells c.args.first.now.value.setup (g.E.Doors.tells c.args.doors.now) (g.E.Doors.tells c.next_visit.new.self) c.args.desk.now c.args.desk.now (g.Y.Keeper.tells c.args.keeper.now) (g.Y.Keeper.tells c.args.keeper.now) c.args.sessions.now.items
    (keeps_same (g.E.Doors.tells c.args.doors.now) (g.E.Doors.tells c.next_visit.new.self) c.in-Quiet.ensures.told)
    (λ start asked count. noted_same start c.args.first.now.value.setup (g.E.Doors.tells c.args.doors.now) (g.E.Doors.tells c.next_visit.new.self) asked c.args.desk.now (g.Y.Keeper.tells c.args.keeper.now) count 0 c.in-Quiet.ensures.told))

pub returns-in-Failed-clause-notes : goal.returns-in-Failed-clause-notes
returns-in-Failed-clause-notes g c =
    unasked _ (g.C.Clock.tells c.args.clock.now) (serve_quiet g.E.Give.Source.tells g.E.Take.Sink.tells c.args.first.now.value.setup (g.E.Doors.tells c.args.doors.now) (g.E.Doors.tells c.next_visit.new.self) c.args.desk.now c.args.desk.now (g.Y.Keeper.tells c.args.keeper.now) (g.Y.Keeper.tells c.args.keeper.now) c.args.sessions.now.items
    (keeps_same (g.E.Doors.tells c.args.doors.now) (g.E.Doors.tells c.next_visit.new.self) c.in-Failed.ensures.told)
    (λ start asked count. noted_same start c.args.first.now.value.setup (g.E.Doors.tells c.args.doors.now) (g.E.Doors.tells c.next_visit.new.self) asked c.args.desk.now (g.Y.Keeper.tells c.args.keeper.now) count 0 c.in-Failed.ensures.told))

pub returns-in-NoMemory-clause-notes : goal.returns-in-NoMemory-clause-notes
returns-in-NoMemory-clause-notes g c =
    unasked _ (g.C.Clock.tells c.args.clock.now) (serve_quiet g.E.Give.Source.tells g.E.Take.Sink.tells c.args.first.now.value.setup (g.E.Doors.tells c.args.doors.now) (g.E.Doors.tells c.next_visit.new.self) c.args.desk.now c.args.desk.now (g.Y.Keeper.tells c.args.keeper.now) (g.Y.Keeper.tells c.args.keeper.now) c.args.sessions.now.items
    (keeps_same (g.E.Doors.tells c.args.doors.now) (g.E.Doors.tells c.next_visit.new.self) c.in-NoMemory.ensures.told)
    (λ start asked count. noted_same start c.args.first.now.value.setup (g.E.Doors.tells c.args.doors.now) (g.E.Doors.tells c.next_visit.new.self) asked c.args.desk.now (g.Y.Keeper.tells c.args.keeper.now) count 0 c.in-NoMemory.ensures.told))

pub returns-in-Over-clause-notes : goal.returns-in-Over-clause-notes
returns-in-Over-clause-notes g c =
    unasked _ (g.C.Clock.tells c.args.clock.now) (serve_quiet g.E.Give.Source.tells g.E.Take.Sink.tells c.args.first.now.value.setup (g.E.Doors.tells c.args.doors.now) (g.E.Doors.tells c.next_visit.new.self) c.args.desk.now c.args.desk.now (g.Y.Keeper.tells c.args.keeper.now) (g.Y.Keeper.tells c.args.keeper.now) c.args.sessions.now.items
    (keeps_same (g.E.Doors.tells c.args.doors.now) (g.E.Doors.tells c.next_visit.new.self) c.in-Over.ensures.told)
    (λ start asked count. noted_same start c.args.first.now.value.setup (g.E.Doors.tells c.args.doors.now) (g.E.Doors.tells c.next_visit.new.self) asked c.args.desk.now (g.Y.Keeper.tells c.args.keeper.now) count 0 c.in-Over.ensures.told))

pub returns-in-Operator-clause-notes : goal.returns-in-Operator-clause-notes
returns-in-Operator-clause-notes g c =
    unasked _ (g.C.Clock.tells c.args.clock.now) (serve_quiet g.E.Give.Source.tells g.E.Take.Sink.tells c.args.first.now.value.setup (g.E.Doors.tells c.args.doors.now) (g.E.Doors.tells c.answer.new.doors) c.args.desk.now c.args.desk.now (g.Y.Keeper.tells c.args.keeper.now) (g.Y.Keeper.tells c.answer.new.keeper) c.args.sessions.now.items
    (keeps_then (g.E.Doors.tells c.args.doors.now) (g.E.Doors.tells c.next_visit.new.self) (g.E.Doors.tells c.answer.new.doors)
    (keeps_more (g.E.Doors.tells c.args.doors.now) (g.E.Doors.tells c.next_visit.new.self) _ c.in-Operator.ensures.told)
    (keeps_more (g.E.Doors.tells c.next_visit.new.self) (g.E.Doors.tells c.answer.new.doors) _ c.answer.ensures.answers.back.told))
    (λ start asked count. noted_operator start c.args.first.now.value.setup (g.E.Doors.tells c.args.doors.now) (g.E.Doors.tells c.next_visit.new.self) (g.E.Doors.tells c.answer.new.doors)
    (g.E.Give.Source.tells c.in-Operator.source) c.answer.ensures.answers.source_after (g.E.Take.Sink.tells c.in-Operator.sink) c.answer.ensures.answers.sink_after c.answer.ensures.answers.end
    asked c.args.desk.now (g.Y.Keeper.tells c.args.keeper.now) (g.Y.Keeper.tells c.answer.new.keeper) count c.in-Operator.ensures.told c.answer.ensures.answers.back.told c.answer.ensures.answers.answers c.answer.ensures.kept
    (λ t was. all_accounted (CameTo g.row.E-Give.Denot) c.args.first.now.value.setup t (c.requires.tells.served t was))))

pub returns-in-Client-clause-notes : goal.returns-in-Client-clause-notes
returns-in-Client-clause-notes g c =
    by_answers _ _ (g.C.Clock.tells c.args.clock.now) (g.C.Clock.tells c.receive.new.clock) (λ more judged start asked had.
    judged start asked (g.Y.Keeper.tells c.args.keeper.now) had.count
    (kept_still g.E.Give.Source.tells g.E.Take.Sink.tells start c.args.first.now.value.setup (g.E.Doors.tells c.args.doors.now) (g.E.Doors.tells c.next_visit.new.self) asked c.args.desk.now c.args.desk.now (g.Y.Keeper.tells c.args.keeper.now) (g.Y.Keeper.tells c.args.keeper.now) had.count had.count 0 1 c.args.sessions.now.items (keeps_more (g.E.Doors.tells c.args.doors.now) (g.E.Doors.tells c.next_visit.new.self) _ c.in-Client.ensures.told)
    (noted_quiet start c.args.first.now.value.setup (g.E.Doors.tells c.args.doors.now) (g.E.Doors.tells c.next_visit.new.self) (Gave Incoming (ends_told g.E.Give.Source.tells g.E.Take.Sink.tells c.in-Client.ends)) asked c.args.desk.now (g.Y.Keeper.tells c.args.keeper.now) had.count 0 1 c.in-Client.ensures.told refl refl (λ before. tt) refl had.kept.noted) had.kept)
    (came_next start c.args.first.now.value.setup (g.E.Doors.tells c.args.doors.now) (g.E.Doors.tells c.next_visit.new.self) Incoming (ends_told g.E.Give.Source.tells g.E.Take.Sink.tells c.in-Client.ends) asked c.args.desk.now (g.Y.Keeper.tells c.args.keeper.now) had.count c.in-Client.ensures.told had.kept.noted))
    c.receive.ensures.notes

pub returns-in-Callers-clause-notes : goal.returns-in-Callers-clause-notes
returns-in-Callers-clause-notes g c =
    by_answers _ _ (g.C.Clock.tells c.args.clock.now) (g.C.Clock.tells c.receive-in-Callers.new.clock) (λ more judged start asked had.
    judged start asked (g.Y.Keeper.tells c.args.keeper.now) had.count
    (kept_still g.E.Give.Source.tells g.E.Take.Sink.tells start c.args.first.now.value.setup (g.E.Doors.tells c.args.doors.now) (g.E.Doors.tells c.next_visit.new.self) asked c.args.desk.now c.args.desk.now (g.Y.Keeper.tells c.args.keeper.now) (g.Y.Keeper.tells c.args.keeper.now) had.count had.count 0 1 c.args.sessions.now.items (keeps_more (g.E.Doors.tells c.args.doors.now) (g.E.Doors.tells c.next_visit.new.self) _ c.in-Callers.ensures.told)
    (noted_quiet start c.args.first.now.value.setup (g.E.Doors.tells c.args.doors.now) (g.E.Doors.tells c.next_visit.new.self) (Gave Outgoing (ends_told g.E.Give.Source.tells g.E.Take.Sink.tells c.in-Callers.ends)) asked c.args.desk.now (g.Y.Keeper.tells c.args.keeper.now) had.count 0 1 c.in-Callers.ensures.told refl refl (λ before. tt) refl had.kept.noted) had.kept)
    (came_next start c.args.first.now.value.setup (g.E.Doors.tells c.args.doors.now) (g.E.Doors.tells c.next_visit.new.self) Outgoing (ends_told g.E.Give.Source.tells g.E.Take.Sink.tells c.in-Callers.ends) asked c.args.desk.now (g.Y.Keeper.tells c.args.keeper.now) had.count c.in-Callers.ensures.told had.kept.noted))
    c.receive-in-Callers.ensures.notes

pub returns-in-Quiet-clause-books : goal.returns-in-Quiet-clause-books
returns-in-Quiet-clause-books g c = are_same g.row.E-Give.Denot c.args.first.now.value.setup c.args.first.now.value.book (g.E.Doors.tells c.args.doors.now) (g.E.Doors.tells c.next_visit.new.self) c.args.runner.now.book (lents g.E.Give.Source.tells g.E.Take.Sink.tells c.args.sessions.now.items) c.in-Quiet.ensures.told c.requires.books

pub returns-in-Failed-clause-books : goal.returns-in-Failed-clause-books
returns-in-Failed-clause-books g c = are_same g.row.E-Give.Denot c.args.first.now.value.setup c.args.first.now.value.book (g.E.Doors.tells c.args.doors.now) (g.E.Doors.tells c.next_visit.new.self) c.args.runner.now.book (lents g.E.Give.Source.tells g.E.Take.Sink.tells c.args.sessions.now.items) c.in-Failed.ensures.told c.requires.books

pub returns-in-NoMemory-clause-books : goal.returns-in-NoMemory-clause-books
returns-in-NoMemory-clause-books g c = are_same g.row.E-Give.Denot c.args.first.now.value.setup c.args.first.now.value.book (g.E.Doors.tells c.args.doors.now) (g.E.Doors.tells c.next_visit.new.self) c.args.runner.now.book (lents g.E.Give.Source.tells g.E.Take.Sink.tells c.args.sessions.now.items) c.in-NoMemory.ensures.told c.requires.books

pub returns-in-Over-clause-books : goal.returns-in-Over-clause-books
returns-in-Over-clause-books g c = are_same g.row.E-Give.Denot c.args.first.now.value.setup c.args.first.now.value.book (g.E.Doors.tells c.args.doors.now) (g.E.Doors.tells c.next_visit.new.self) c.args.runner.now.book (lents g.E.Give.Source.tells g.E.Take.Sink.tells c.args.sessions.now.items) c.in-Over.ensures.told c.requires.books

pub returns-in-Operator-clause-books : goal.returns-in-Operator-clause-books
returns-in-Operator-clause-books g c =
    are_quiet g.row.E-Give.Denot c.args.first.now.value.setup c.args.first.now.value.book (g.E.Doors.tells c.next_visit.new.self) (g.E.Doors.tells c.answer.new.doors) _ c.args.runner.now.book (lents g.E.Give.Source.tells g.E.Take.Sink.tells c.args.sessions.now.items) c.answer.ensures.answers.back.told refl
    (are_quiet g.row.E-Give.Denot c.args.first.now.value.setup c.args.first.now.value.book (g.E.Doors.tells c.args.doors.now) (g.E.Doors.tells c.next_visit.new.self) _ c.args.runner.now.book (lents g.E.Give.Source.tells g.E.Take.Sink.tells c.args.sessions.now.items) c.in-Operator.ensures.told refl c.requires.books)

pub receive-requires-clause-books : goal.receive-requires-clause-books
receive-requires-clause-books g c κs within =
    are_quiet g.row.E-Give.Denot c.args.first.now.value.setup c.args.first.now.value.book (g.E.Doors.tells c.args.doors.now) (g.E.Doors.tells c.next_visit.new.self) _ c.args.runner.now.book (lents g.E.Give.Source.tells g.E.Take.Sink.tells c.args.sessions.now.items) c.in-Client.ensures.told refl c.requires.books

pub receive-requires-in-Callers-clause-books : goal.receive-requires-in-Callers-clause-books
receive-requires-in-Callers-clause-books g c κs within =
    are_quiet g.row.E-Give.Denot c.args.first.now.value.setup c.args.first.now.value.book (g.E.Doors.tells c.args.doors.now) (g.E.Doors.tells c.next_visit.new.self) _ c.args.runner.now.book (lents g.E.Give.Source.tells g.E.Take.Sink.tells c.args.sessions.now.items) c.in-Callers.ensures.told refl c.requires.books
