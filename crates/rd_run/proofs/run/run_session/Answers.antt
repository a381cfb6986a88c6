use Rattle.std.proofs.Common.{◌≡◌, ◌+◌, ◌≤◌, ℕ, List, [], ◌++◌, length, map, Some, refl, sym, ap, ap₂, ◌∙◌, subst, arith, append-nil, inl, inr}
use Rattle.std.specs.Prelude.{slice_get}
use Rattle.rd_base.specs.Outside.{SinkTold}
use Rattle.rd_base.specs.Sources.{SourceTold}
use Rattle.rd_rules.specs.Exchange.{Rules}
use Rattle.rd_reading.specs.Seen.{rules_of}
use Rattle.rd_gate.specs.declared.gate.View.{View}
use Rattle.rd_gate.specs.Gate.{Known, known, reader, fresh, of, owner}
use Rattle.rd_turn.specs.Turns.{Outside, outside, rules_by}
use Rattle.rd_run.specs.Ran.{LinkRead, SessionRan}
use Rattle.rd_run.specs.Links.{AreFresh, LinksDone}
use Rattle.rd_run.specs.Logs.{LogView}
use Rattle.rd_run.specs.Whole.{may_stay, taken_in}
use Rattle.rd_run.proofs.Links.{fresh_are, fresh_at, fresh_front, fresh_length, links_read, links_stay}
use Rattle.rd_run.proofs.Wholes.{was_unstarted, ran_through, links_in, none_is}
use Rattle.rd_run.proofs.run.run_session.Goals as goal

pub returns-in_default-clause-run : goal.returns-in_default-clause-run
returns-in_default-clause-run g c =
    let asks : View → Outside = λ v. outside v (g.C.Clock.tells c.args.clock.now) (g.Q.Stopper.tells c.args.stop.now) (g.B.TokenBook.tells c.args.book.now) in
    c.run_unmade.ensures.run (rules_of (g.D.Dialect.grammar c.args.dialect) c.args.setup) asks (g.P.Spawner.tells c.args.spawner.now).refusals

pub start_all-requires-clause-passes : goal.start_all-requires-clause-passes
start_all-requires-clause-passes g c =
    let size = ap length c.in-Ok.ensures.passes ∙ fresh_length c.in-Ok.ready.gate.gate (c.args.setup.limits.copies + 1) in
    omega (arith, size, c.requires.sources)

pub leave_unstarted-left-requires-clause-passes : goal.leave_unstarted-left-requires-clause-passes
leave_unstarted-left-requires-clause-passes g c =
    let gate = c.in-Ok.ready.gate.gate in
    let all = subst (AreFresh gate 0) (sym (c.start_all.ensures.passes ∙ c.in-Ok.ensures.passes)) (fresh_are gate (c.args.setup.limits.copies + 1)) in
    fresh_front gate 0 (map (λ r. r.1) c.start_all.new.readings.items ++ map (λ n. n.pass) c.start_all.new.unread.items) c.start_all.new.passes all

pub run_started-left-requires-clause-passes : goal.run_started-left-requires-clause-passes
run_started-left-requires-clause-passes g c =
    let gate = c.in-Ok.ready.gate.gate in
    let all = subst (AreFresh gate 0) (sym (c.start_all.ensures.passes ∙ c.in-Ok.ensures.passes)) (fresh_are gate (c.args.setup.limits.copies + 1)) in
    let both = fresh_front gate 0 (map (λ r. r.1) c.start_all.new.readings.items ++ map (λ n. n.pass) c.start_all.new.unread.items) c.start_all.new.passes all in
    let first = fresh_front gate 0 (map (λ r. r.1) c.start_all.new.readings.items) (map (λ n. n.pass) c.start_all.new.unread.items) both in
    λ k r at. fresh_at (λ q. q.1) gate 0 c.start_all.new.readings.items first k r at ∙ ap (λ n. known gate (reader n [])) (let e : 0 + k ≡ k = omega arith in e)

pub returns-then-not-start_all-clause-run : goal.returns-then-not-start_all-clause-run
returns-then-not-start_all-clause-run g c =
    let r : Rules = rules_of (g.D.Dialect.grammar c.args.dialect) c.args.setup in
    let asks : View → Outside = λ v. outside v (g.C.Clock.tells c.args.clock.now) (g.Q.Stopper.tells c.args.stop.now) (g.B.TokenBook.tells c.args.book.now) in
    let left = c.leave_unstarted-left in
    was_unstarted r asks asks (g.P.Spawner.tells c.args.spawner.now).refusals (g.P.Spawner.tells c.start_all.new.spawner).refusals left.new.gate.knows c.run_of.result left.result
    c.new-journal.result.entries.list (map g.K.Sink.tells c.args.sinks.now.items) (map g.K.Sink.tells left.new.sinks.items)
    c.run_of.ensures.ending c.run_of.ensures.log (c.run_of.ensures.told ∙ c.new-journal.ensures.told)
    (c.run_of.ensures.exchanges ∙ left.ensures.exchanges) (c.run_of.ensures.masked ∙ left.ensures.masked) c.run_of.ensures.left
    left.ensures.ending c.new-journal.ensures.entries left.ensures.left (λ w. refl) c.if-not-start_all.ensures.counts left.ensures.closed

pub returns-then-not-start_all-clause-sources : goal.returns-then-not-start_all-clause-sources
returns-then-not-start_all-clause-sources g c =
    let tells = g.S.Source.tells in
    let left = c.leave_unstarted-left in
    let links = links_in c.run_of.result (Unit {0}) c.new-journal.result.entries.list left.new.gate.knows
    (map tells (map (λ r. r.0) c.start_all.new.readings.items ++ map (λ n. n.source) c.start_all.new.unread.items)) (map tells left.new.sources.items)
    (λ t. inl (c.run_of.ensures.ending ∙ left.ensures.ending)) c.run_of.ensures.log left.ensures.sources in
    subst (λ xs. LinksDone (may_stay c.run_of.result) (taken_in c.run_of.result) 0 xs (map tells c.run_of.result.sources.items)) (ap (map tells) c.start_all.ensures.sources)
    (subst (λ ys. LinksDone (may_stay c.run_of.result) (taken_in c.run_of.result) 0 (map tells (map (λ r. r.0) c.start_all.new.readings.items ++ map (λ n. n.source) c.start_all.new.unread.items)) ys)
    (sym (ap (λ v. map tells v.items) c.run_of.ensures.sources)) links)

pub returns-clause-run : goal.returns-clause-run
returns-clause-run g c =
    let r : Rules = rules_of (g.D.Dialect.grammar c.args.dialect) c.args.setup in
    let left = c.run_started-left in
    let before : View → Outside = λ v. outside v (g.C.Clock.tells c.args.clock.now) (g.Q.Stopper.tells c.args.stop.now) (g.B.TokenBook.tells c.args.book.now) in
    let after : View → Outside = λ v. outside v (g.C.Clock.tells left.new.clock) (g.Q.Stopper.tells left.new.stop) (g.B.TokenBook.tells left.new.book) in
    let olds : List SinkTold = map g.K.Sink.tells c.args.sinks.now.items in
    let news : List SinkTold = map g.K.Sink.tells left.new.sinks.items in
    let same : rules_by g.D.Dialect.grammar c.in-Ok.ready.session ≡ r = ap₂ (λ gr s. rules_of gr s) (ap g.D.Dialect.grammar c.in-Ok.ensures.dialect) c.in-Ok.ensures.setup in
    let entries = left.new.journal.entries.list in
    let told = left.new.journal.told in
    let session : SessionRan r (before (owner (r.limits.copies + 1) [] [] [])) (after left.new.gate.knows) entries told left.result olds news =
    subst (λ (v : View). SessionRan r (before v) (after left.new.gate.knows) entries told left.result olds news) c.in-Ok.ensures.gate
    (subst (λ (q : Rules). SessionRan q (before c.in-Ok.ready.gate.knows) (after left.new.gate.knows) entries told left.result olds news) same left.ensures.run) in
    ran_through r before after (g.P.Spawner.tells c.args.spawner.now).refusals (g.P.Spawner.tells c.start_all.new.spawner).refusals left.new.gate.knows c.run_of-2.result left.result entries told olds news
    c.run_of-2.ensures.ending c.run_of-2.ensures.log c.run_of-2.ensures.told c.run_of-2.ensures.exchanges c.run_of-2.ensures.masked c.run_of-2.ensures.left c.if-not-start_all.ensures.counts session

pub returns-clause-sources : goal.returns-clause-sources
returns-clause-sources g c =
    let tells = g.S.Source.tells in
    let left = c.run_started-left in
    let run = c.run_of-2.result in
    let rs = c.start_all.new.readings.items in
    let ss = left.new.sources.items in
    let size : length ss ≡ length rs = sym left.new.sources.ok.0 ∙ left.ensures.all_back ∙ c.start_all.new.readings.ok.0 in
    let links = links_read (may_stay run) tells (λ l. of l left.new.gate.knows.taken) 0 rs ss size
    (λ j r s at_r at_s. subst (λ n. LinkRead (of n left.new.gate.knows.taken) (tells r.0) (tells s)) (let e : j ≡ 0 + j = omega arith in e) (left.ensures.sources j r s at_r at_s)) in
    let none : c.start_all.new.unread.items ≡ [] = c.start_all.ensures.all c.if-not-start_all.false in
    let all : map (λ r. r.0) rs ≡ c.args.sources.items =
    sym (append-nil (map (λ r. r.0) rs)) ∙ ap (λ u. map (λ r. r.0) rs ++ map (λ n. n.source) u) (sym none) ∙ c.start_all.ensures.sources in
    subst (λ xs. LinksDone (may_stay run) (taken_in run) 0 xs (map tells run.sources.items)) (ap (map tells) all)
    (subst (λ ys. LinksDone (may_stay run) (taken_in run) 0 (map tells (map (λ r. r.0) rs)) ys) (sym (ap (λ v. map tells v.items) c.run_of-2.ensures.sources))
    (links_in run (may_stay run) left.new.journal.entries.list left.new.gate.knows (map tells (map (λ r. r.0) rs)) (map tells ss) (λ t. t) c.run_of-2.ensures.log links))
