use Rattle.std.proofs.Common.{◌≡◌, ◌<◌, ◌+◌, ℕ, List, length, map, refl, sym, ap, ◌∙◌, subst, arith, vec_len}
use Rattle.std.proofs.lemmas.List.{map-set}
use Rattle.rd_base.specs.Outside.{Closes}
use Rattle.rd_run.specs.Leaving.{ClosedFirst}
use Rattle.rd_turn.proofs.Writes.{sink_here, count_of}
use Rattle.rd_run.proofs.Leaves.{closed_none, closed_more, closed_all}
use Rattle.rd_run.proofs.leaving.close_all.Goals as goal

pub loop-link-init : goal.loop-link-init
loop-link-init g c =
    let st = g.K.Sink.tells in
    record { count = refl; closed = closed_none (map st c.args.sinks.now.items) }

pub loop-link-preserved : goal.loop-link-preserved
loop-link-preserved g c =
    let st = g.K.Sink.tells in
    let l = c.loop-link.link in
    let olds = map st c.args.sinks.now.items in
    let news = map st c.loop-link.sinks.items in
    let new = st c.close.new.self in
    let lt : l < vec_len c.args.sinks.now = omega (arith, c.loop-link-test.true, c.len-link-end.ensures) in
    let inside : l < length c.loop-link.sinks.items = omega (arith, lt, c.loop-link.invariant.count, c.loop-link.sinks.ok.0) in
    let in_olds : l < length olds = omega (arith, lt, c.args.sinks.now.ok.0, count_of st c.args.sinks.now.items) in
    let here = sink_here st c.loop-link.sinks.items l c.index_mut-sink.result.now inside c.index_mut-sink.ensures.value in
    record {
      count = c.loop-link.invariant.count;
      closed = subst (ClosedFirst (l + 1) olds) (sym (map-set st c.loop-link.sinks.items l c.close.new.self))
          (closed_more olds news l new in_olds c.loop-link.invariant.closed (subst (λ s. Closes s new) (sym here) c.close.ensures));
    }

pub returns-clause-closed : goal.returns-clause-closed
returns-clause-closed g c =
    let st = g.K.Sink.tells in
    let size : c.loop-link.link ≡ length (map st c.args.sinks.now.items) = omega (arith, c.loop-link-test.false, c.loop-link.auto.link-end, c.len-link-end.ensures, c.args.sinks.now.ok.0, count_of st c.args.sinks.now.items) in
    closed_all (map st c.args.sinks.now.items) (map st c.loop-link.sinks.items) c.loop-link.link size c.loop-link.invariant.closed
