use Rattle.std.proofs.Common.{◌≡◌, ◌∷◌, [], length, Some, sym, ap, ◌∙◌, subst, arith, length-append}
use Rattle.std.specs.Prelude.{slice_get}
use Rattle.std.proofs.lemmas.Iterator.Adapters.{YieldsList-from_vec}
use Rattle.std.proofs.lemmas.Iterator.Consumers.{YieldsList-turn, YieldsList-end}
use Rattle.rd_gate.specs.declared.gate.View.{View}
use Rattle.rd_gate.specs.Gate.{joined}
use Rattle.rd_start.specs.Back.{with_ended}
use Rattle.rd_start.proofs.Backs.{backs_more, map_same}
use Rattle.rd_start.proofs.start.join_all.Goals as goal

pub push_reserved-requires : goal.push_reserved-requires
push_reserved-requires g c =
    let e = c.into_iter-reading-iterator.ensures.into_iter_gives in
    let t = YieldsList-turn (YieldsList-from_vec c.args.readings.items e.0 (e.1 ∙ c.args.readings.ok.0)) c.loop-reading.yielded c.loop-reading.reading-iterator c.loop-reading.yielded_by c.next.result c.next.new.self c.in-Some.reading c.in-Some.is c.next.ensures.steps in
    omega (arith, t.0, c.loop-reading.invariant.count, c.loop-reading.invariant.room, c.args.readings.ok.0)

pub loop-reading-preserved : goal.loop-reading-preserved
loop-reading-preserved g c =
    let inv = c.loop-reading.invariant in
    let size : length c.loop-reading.yielded ≡ length c.loop-reading.sources.items = sym inv.count ∙ c.loop-reading.sources.ok.0 in
    let knows : c.take_in.new.self.knows ≡ joined c.loop-reading.owner.knows c.join-back.result.pass.knows = c.take_in.ensures.joined in
    record {
      count = (let len = c.push_reserved.ensures.len in let n = inv.count in omega (arith, len, n, length-append c.loop-reading.yielded (c.in-Some.reading ∷ [])));
      room = (let cap = c.push_reserved.ensures.capacity in let n = inv.room in omega (arith, cap, n));
      same_room = c.push_reserved.ensures.capacity ∙ c.loop-reading.invariant.same_room;
      gate = c.take_in.ensures.gate ∙ inv.gate;
      knows = knows ∙ ap (λ (v : View). joined v c.join-back.result.pass.knows) inv.knows ∙ sym (ap (λ (v : View). with_ended c.args.owner.now.knows v.ended) knows);
      backs = λ k r s at_r at_s. backs_more g.S.Source.tells c.loop-reading.yielded c.loop-reading.sources.items c.loop-reading.owner.knows c.take_in.new.self.knows c.in-Some.reading c.join-back.result.source c.join-back.result.pass.knows
          size inv.backs c.join-back.ensures.reads knows k r s at_r (subst (λ xs. slice_get xs k ≡ Some s) c.push_reserved.ensures.items at_s);
    }

pub returns-clause-count : goal.returns-clause-count
returns-clause-count g c =
    let e = c.into_iter-reading-iterator.ensures.into_iter_gives in
    let t = YieldsList-end (YieldsList-from_vec c.args.readings.items e.0 (e.1 ∙ c.args.readings.ok.0)) c.loop-reading.yielded c.loop-reading.reading-iterator c.loop-reading.yielded_by c.next.result c.next.new.self c.in-None.is c.next.ensures.steps in
    omega (arith, t.1, c.loop-reading.invariant.count, c.args.readings.ok.0)

pub returns-clause-backs : goal.returns-clause-backs
returns-clause-backs g c =
    let e = c.into_iter-reading-iterator.ensures.into_iter_gives in
    let t = YieldsList-end (YieldsList-from_vec c.args.readings.items e.0 (e.1 ∙ c.args.readings.ok.0)) c.loop-reading.yielded c.loop-reading.reading-iterator c.loop-reading.yielded_by c.next.result c.next.new.self c.in-None.is c.next.ensures.steps in
    λ k r s at_r at_s. c.loop-reading.invariant.backs k r s (subst (λ xs. slice_get xs k ≡ Some r) (sym (sym (map_same c.loop-reading.yielded) ∙ t.0)) at_r) at_s
