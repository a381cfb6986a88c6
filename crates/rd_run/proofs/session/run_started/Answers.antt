use Rattle.std.proofs.Common.{◌≡◌, ◌+◌, ◌<◌, ℕ, List, length, map, Some, refl, sym, ap, ◌∙◌}
use Rattle.std.specs.Prelude.{slice_get, slice_index_or}
use Rattle.std.proofs.lemmas.Option.{slice_get-get_or}
use Rattle.rd_base.specs.Outside.{SinkTold}
use Rattle.rd_rules.specs.Exchange.{Rules}
use Rattle.rd_gate.specs.Gate.{Known, reader, known}
use Rattle.rd_turn.specs.Turns.{Outside, outside, rules_by}
use Rattle.rd_run.proofs.SessionEnds.{Leaves, link_back, session_ended}
use Rattle.rd_run.proofs.session.run_started.Goals as goal

pub join_all-requires-clause-gates : goal.join_all-requires-clause-gates
join_all-requires-clause-gates g c = λ k d lt.
    let fresh = c.requires.passes k (slice_index_or c.args.readings.items k d) (slice_get-get_or c.args.readings.items k d lt) in
    ap (λ (p : Known). p.gate) fresh ∙ sym (c.drain-left.ensures.gate ∙ c.run_turns-ending.ensures.gate)

pub returns-clause-sources : goal.returns-clause-sources
returns-clause-sources g c =
    let leaves : Leaves c.run_turns-ending.new.gate.knows c.drain-left.new.gate.knows c.join_all.new.owner.knows c.drain_last-left.new.gate.knows c.left_of.result c.drain-left.result c.drain-left.result c.drain_last-left.result =
    record { first = c.drain-left.ensures.drained; joined = c.join_all.ensures.knows; last = c.drain_last-left.ensures.drained; whole = c.drain_last-left.ensures.whole } in
    λ k r s at_r at_s. link_back g.S.Source.tells c.args.gate.now.gate k r s
    c.run_turns-ending.new.gate.knows c.drain-left.new.gate.knows c.join_all.new.owner.knows c.drain_last-left.new.gate.knows c.left_of.result c.drain-left.result c.drain-left.result c.drain_last-left.result
    leaves (c.requires.passes k r at_r) (c.join_all.ensures.backs k r s at_r at_s)

pub returns-clause-run : goal.returns-clause-run
returns-clause-run g c =
    let r : Rules = rules_by g.D.Dialect.grammar c.args.session.now in
    let olds : List SinkTold = map g.K.Sink.tells c.args.sinks.now.items in
    let mids : List SinkTold = map g.K.Sink.tells c.run_turns-ending.new.sinks.items in
    let news : List SinkTold = map g.K.Sink.tells c.close_all.new.sinks.items in
    let before : Outside = outside c.args.gate.now.knows (g.C.Clock.tells c.args.clock.now) (g.Q.Stopper.tells c.args.stop.now) (g.B.TokenBook.tells c.args.book.now) in
    let after : Outside = outside c.run_turns-ending.new.gate.knows (g.C.Clock.tells c.run_turns-ending.new.clock) (g.Q.Stopper.tells c.run_turns-ending.new.stop) (g.B.TokenBook.tells c.run_turns-ending.new.book) in
    let leaves : Leaves c.run_turns-ending.new.gate.knows c.drain-left.new.gate.knows c.join_all.new.owner.knows c.drain_last-left.new.gate.knows c.left_of.result c.drain-left.result c.drain-left.result c.drain_last-left.result =
    record { first = c.drain-left.ensures.drained; joined = c.join_all.ensures.knows; last = c.drain_last-left.ensures.drained; whole = c.drain_last-left.ensures.whole } in
    session_ended g.S.Source.tells r c.now-base.result before after (g.C.Clock.tells c.now-base.new.self)
    c.drain-left.new.gate.knows c.join_all.new.owner.knows c.drain_last-left.new.gate.knows c.left_of.result c.drain-left.result
    c.run_turns-ending.new.journal.entries.list c.run_turns-ending.new.journal.told c.run_turns-ending.result.back
    (record { ending = c.run_turns-ending.result.ending; failed = c.run_turns-ending.result.failed; counts = c.run_turns-ending.result.counts; left = c.drain_last-left.result }) olds mids news
    c.args.readings.items c.join_all.new.sources.items
    c.requires.gate c.now-base.ensures c.run_turns-ending.ensures.run leaves c.left_of.ensures c.close_all.ensures.closed
    (sym c.args.readings.ok.0 ∙ c.requires.readings) (sym c.join_all.new.sources.ok.0 ∙ c.join_all.ensures.count ∙ c.requires.readings)
    (λ k q s at_q at_s. link_back g.S.Source.tells c.args.gate.now.gate k q s
    c.run_turns-ending.new.gate.knows c.drain-left.new.gate.knows c.join_all.new.owner.knows c.drain_last-left.new.gate.knows c.left_of.result c.drain-left.result c.drain-left.result c.drain_last-left.result
    leaves (c.requires.passes k q at_q) (c.join_all.ensures.backs k q s at_q at_s))
