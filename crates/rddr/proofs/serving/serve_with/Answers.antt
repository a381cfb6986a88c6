use Rattle.std.proofs.Common.{◌≡◌, ◌≤◌, Some, Err, sym, ap, ◌∙◌, subst, arith}
use Rattle.rd_runner.specs.Runs.{Setup, setup_of}
use Rattle.rd_desk.proofs.At.{rose_sooner}
use Rattle.rd_runner.specs.Counts.{RunnerTold, RoseBy}
use Rattle.rd_run_session.specs.CameTo.{CameTo}
use Rattle.rd_serve.specs.Books.{ServedBook}
use Rattle.rd_serve.specs.Counting.{times_stopped, times_unstarted}
use Rattle.rd_serve.specs.Operators.{Answering, NotesAndAnswers}
use Rattle.rd_serve.specs.Serving.{IsServed}
use Rattle.rddr.proofs.Joining.{late_with, all_noted, rose_with, rose_with_capped}
use Rattle.rddr.proofs.serving.serve_with.Goals as goal

-- ---- the doors are over

pub returns-in_default-served-clause-served : goal.returns-in_default-served-clause-served
returns-in_default-served-clause-served g c told is =
    let setup : c.new-runner.result.setup ≡ setup_of c.args.settings = ap (λ (r : RunnerTold). r.setup) c.new-runner.ensures in
    subst (λ (s : Setup). IsServed (CameTo g.row.E-Give.Denot) s told) setup (c.serve-served.ensures.served told is)

pub returns-in_default-served-clause-late : goal.returns-in_default-served-clause-late
returns-in_default-served-clause-late g c told is =
    let joined = c.join_in-2.ensures.span in
    let parts = c.into_parts-their_spawner.ensures.span in
    late_with c.serve-served.new.runner.span (g.C.Clock.tells c.join_in-2.new.self).span told (omega arith) (c.serve-served.ensures.late told is)

pub returns-in_default-served-clause-notes : goal.returns-in_default-served-clause-notes
returns-in_default-served-clause-notes g c zero told is =
    let setup : c.new-runner.result.setup ≡ setup_of c.args.settings = ap (λ (r : RunnerTold). r.setup) c.new-runner.ensures in
    all_noted (setup_of c.args.settings) told c.in-Ok.desk (g.C.Clock.tells c.args.clock.now) (g.C.Clock.tells c.serve-served.new.clock) (g.C.Clock.tells c.join_in-2.new.self) (g.Y.Keeper.tells c.args.keeper.now) (g.Y.Keeper.tells c.open.new.keeper) (g.Y.Keeper.tells c.serve-served.new.keeper) c.in-Ok.ensures.opens c.in-Ok.ensures.at c.join_in-2.ensures.answers
    (λ start at. subst (λ (s : Setup). Answering (λ asked. NotesAndAnswers s start asked told (g.Y.Keeper.tells c.serve-served.new.keeper)) (g.C.Clock.tells c.args.clock.now) (g.C.Clock.tells c.serve-served.new.clock)) setup (c.in_default-served.ensures.notes start told at is))

pub returns-in_default-served-clause-stopped : goal.returns-in_default-served-clause-stopped
returns-in_default-served-clause-stopped g c told is =
    rose_with (times_stopped told) (g.T.Stopper.tells c.args.stop.now).yeses _ (g.T.Stopper.tells c.join_in-3.new.self).yeses
    (subst (λ y. RoseBy (times_stopped told) 0 y) (sym c.into_parts-their_spawner.ensures.yeses)
    (subst (λ y. RoseBy (times_stopped told) y c.serve-served.new.runner.yeses) (ap (λ (r : RunnerTold). r.yeses) c.new-runner.ensures) (c.serve-served.ensures.stopped told is)))
    c.join_in-3.ensures.yeses

pub returns-in_default-served-clause-unstarted : goal.returns-in_default-served-clause-unstarted
returns-in_default-served-clause-unstarted g c told is =
    rose_with_capped (times_unstarted told) (g.P.Spawner.tells c.args.spawner.now).refusals _ (g.P.Spawner.tells c.join_in.new.self).refusals c.serve-served.new.runner.refusals
    (subst (λ y. RoseBy (times_unstarted told) y c.serve-served.new.runner.refusals) (ap (λ (r : RunnerTold). r.refusals) c.new-runner.ensures) (c.serve-served.ensures.unstarted told is))
    c.into_parts-their_spawner.ensures.refusals c.join_in.ensures.refusals

pub returns-in_default-served-clause-book : goal.returns-in_default-served-clause-book
returns-in_default-served-clause-book g c zero told is =
    let setup : c.new-runner.result.setup ≡ setup_of c.args.settings = ap (λ (r : RunnerTold). r.setup) c.new-runner.ensures in
    subst (λ (s : Setup). ServedBook g.row.E-Give.Denot s told) setup
    (c.in_default-served.ensures.book 32 told (ap (λ (r : RunnerTold). r.book) c.new-runner.ensures ∙ ap (λ b. Some b) c.in-Some.ensures) is)

-- ---- a put failed

pub returns-in-Failed-clause-served : goal.returns-in-Failed-clause-served
returns-in-Failed-clause-served g c told is =
    let setup : c.new-runner.result.setup ≡ setup_of c.args.settings = ap (λ (r : RunnerTold). r.setup) c.new-runner.ensures in
    subst (λ (s : Setup). IsServed (CameTo g.row.E-Give.Denot) s told) setup (c.serve-served.ensures.served told is)

pub returns-in-Failed-clause-stopped : goal.returns-in-Failed-clause-stopped
returns-in-Failed-clause-stopped g c told is =
    rose_with (times_stopped told) (g.T.Stopper.tells c.args.stop.now).yeses _ (g.T.Stopper.tells c.join_in-3.new.self).yeses
    (subst (λ y. RoseBy (times_stopped told) 0 y) (sym c.into_parts-their_spawner.ensures.yeses)
    (subst (λ y. RoseBy (times_stopped told) y c.serve-served.new.runner.yeses) (ap (λ (r : RunnerTold). r.yeses) c.new-runner.ensures) (c.serve-served.ensures.stopped told is)))
    c.join_in-3.ensures.yeses

pub returns-in-Failed-clause-unstarted : goal.returns-in-Failed-clause-unstarted
returns-in-Failed-clause-unstarted g c told is =
    rose_with_capped (times_unstarted told) (g.P.Spawner.tells c.args.spawner.now).refusals _ (g.P.Spawner.tells c.join_in.new.self).refusals c.serve-served.new.runner.refusals
    (subst (λ y. RoseBy (times_unstarted told) y c.serve-served.new.runner.refusals) (ap (λ (r : RunnerTold). r.refusals) c.new-runner.ensures) (c.serve-served.ensures.unstarted told is))
    c.into_parts-their_spawner.ensures.refusals c.join_in.ensures.refusals

pub returns-in-Failed-clause-late : goal.returns-in-Failed-clause-late
returns-in-Failed-clause-late g c told is =
    let joined = c.join_in-2.ensures.span in
    let parts = c.into_parts-their_spawner.ensures.span in
    late_with c.serve-served.new.runner.span (g.C.Clock.tells c.join_in-2.new.self).span told (omega arith) (c.serve-served.ensures.late told is)

pub returns-in-Failed-clause-unkept : goal.returns-in-Failed-clause-unkept
returns-in-Failed-clause-unkept g c four =
    rose_sooner (g.Y.Keeper.tells c.args.keeper.now).faults (g.Y.Keeper.tells c.open.new.keeper).faults (g.Y.Keeper.tells c.serve-served.new.keeper).faults c.in-Ok.ensures.at.faults (c.in-Err.ensures.four (ap (λ x. Err x) c.in-Failed.is))

-- ---- memory ran out

pub returns-clause-served : goal.returns-clause-served
returns-clause-served g c told is =
    let setup : c.new-runner.result.setup ≡ setup_of c.args.settings = ap (λ (r : RunnerTold). r.setup) c.new-runner.ensures in
    subst (λ (s : Setup). IsServed (CameTo g.row.E-Give.Denot) s told) setup (c.serve-served.ensures.served told is)

pub returns-clause-stopped : goal.returns-clause-stopped
returns-clause-stopped g c told is =
    rose_with (times_stopped told) (g.T.Stopper.tells c.args.stop.now).yeses _ (g.T.Stopper.tells c.join_in-3.new.self).yeses
    (subst (λ y. RoseBy (times_stopped told) 0 y) (sym c.into_parts-their_spawner.ensures.yeses)
    (subst (λ y. RoseBy (times_stopped told) y c.serve-served.new.runner.yeses) (ap (λ (r : RunnerTold). r.yeses) c.new-runner.ensures) (c.serve-served.ensures.stopped told is)))
    c.join_in-3.ensures.yeses

pub returns-clause-unstarted : goal.returns-clause-unstarted
returns-clause-unstarted g c told is =
    rose_with_capped (times_unstarted told) (g.P.Spawner.tells c.args.spawner.now).refusals _ (g.P.Spawner.tells c.join_in.new.self).refusals c.serve-served.new.runner.refusals
    (subst (λ y. RoseBy (times_unstarted told) y c.serve-served.new.runner.refusals) (ap (λ (r : RunnerTold). r.refusals) c.new-runner.ensures) (c.serve-served.ensures.unstarted told is))
    c.into_parts-their_spawner.ensures.refusals c.join_in.ensures.refusals

pub returns-clause-late : goal.returns-clause-late
returns-clause-late g c told is =
    let joined = c.join_in-2.ensures.span in
    let parts = c.into_parts-their_spawner.ensures.span in
    late_with c.serve-served.new.runner.span (g.C.Clock.tells c.join_in-2.new.self).span told (omega arith) (c.serve-served.ensures.late told is)

-- ---- nothing was told before

pub serve-served-requires-clause-untold : goal.serve-served-requires-clause-untold
serve-served-requires-clause-untold g c κs within told is = c.requires.untold told (sym c.make_ports.ensures.told ∙ is)
