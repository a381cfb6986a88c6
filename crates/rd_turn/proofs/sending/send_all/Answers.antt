use Rattle.std.proofs.Common.{◌≡◌, ◌<◌, ◌≤◌, ◌+◌, ℕ, List, false, length, map, sym, ap, ◌∙◌, subst, arith, set, vec_len, refl}
use Rattle.std.proofs.lemmas.List.{map-set}
use Rattle.rd_base.specs.Sent.{sends_to}
use Rattle.rd_base.specs.Outside.{SinkTold}
use Rattle.rd_turn.specs.Sinks.{Wrote, Broke, WroteTo, WroteFirst, AreOpen, sink_at}
use Rattle.rd_turn.proofs.Writes.{sink_here, some_bytes, no_bytes, first_more, first_same, first_fails, open_set, count_of}
use Rattle.rd_turn.proofs.sending.send_all.Goals as goal
use Rattle.rd_turn.proofs.sending.send_all.Goals.{in-Some+in-Ok, in-None}

pub push-requires : goal.push-requires
push-requires g c =
    let st = g.K.Sink.tells in
    let inside : c.loop-link.link < length c.loop-link.sinks.items = omega (arith, c.loop-link-test.true, c.len-link-end.ensures, c.loop-link.invariant.count, c.loop-link.sinks.ok.0) in
    let here = sink_here st c.loop-link.sinks.items c.loop-link.link c.index_mut-sink.result.now inside c.index_mut-sink.ensures.value in
    ap (λ (s : SinkTold). s.is_closed) (sym here) ∙ c.loop-link.invariant.is_open c.loop-link.link (omega (arith, inside, count_of st c.loop-link.sinks.items))

pub returns-in-Err-clause-err : goal.returns-in-Err-clause-err
returns-in-Err-clause-err g c =
    let st = g.K.Sink.tells in
    let l = c.loop-link.link in
    let olds = map st c.args.sinks.now.items in
    let news = map st c.loop-link.sinks.items in
    let new = st c.push.new.self in
    let lt : l < vec_len c.args.sinks.now = omega (arith, c.loop-link-test.true, c.len-link-end.ensures) in
    let inside : l < length c.loop-link.sinks.items = omega (arith, lt, c.loop-link.invariant.count, c.loop-link.sinks.ok.0) in
    let in_olds : l < length olds = omega (arith, lt, c.args.sinks.now.ok.0, count_of st c.args.sinks.now.items) in
    let here = sink_here st c.loop-link.sinks.items l c.index_mut-sink.result.now inside c.index_mut-sink.ensures.value in
    λ f are.
    let bytes = some_bytes (vec_len c.args.sinks.now) l f c.args.sends.now c.loop-link.place c.in-Some.bytes.now lt are (c.loop-link.invariant.place f are) c.in-Some.ensures in
    let broke : Broke c.in-Some.bytes.now (st c.index_mut-sink.result.now) new = record {
      held = c.in-Err.ensures.part;
      rose = c.in-Err.ensures.failed refl;
      stays = c.in-Err.ensures.stays;
    } in
    subst (WroteTo l f olds) (sym (map-set st c.loop-link.sinks.items l c.push.new.self))
    (first_fails f olds news l new in_olds (c.loop-link.invariant.first f are)
    (subst (λ b. Broke b (sink_at news l) new) bytes.0 (subst (λ s. Broke c.in-Some.bytes.now s new) (sym here) broke)))

pub returns-in-Err-clause-is_open : goal.returns-in-Err-clause-is_open
returns-in-Err-clause-is_open g c =
    let st = g.K.Sink.tells in
    let inside : c.loop-link.link < length c.loop-link.sinks.items = omega (arith, c.loop-link-test.true, c.len-link-end.ensures, c.loop-link.invariant.count, c.loop-link.sinks.ok.0) in
    subst AreOpen (sym (map-set st c.loop-link.sinks.items c.loop-link.link c.push.new.self))
    (open_set (map st c.loop-link.sinks.items) c.loop-link.link (st c.push.new.self) (omega (arith, inside, count_of st c.loop-link.sinks.items)) c.loop-link.invariant.is_open c.in-Err.ensures.stays.stays_open)

pub loop-link-preserved : goal.loop-link-preserved
loop-link-preserved g c =
    let st = g.K.Sink.tells in
    let l = c.loop-link.link in
    let olds = map st c.args.sinks.now.items in
    let news = map st c.loop-link.sinks.items in
    let lt : l < vec_len c.args.sinks.now = omega (arith, c.loop-link-test.true, c.len-link-end.ensures) in
    let inside : l < length c.loop-link.sinks.items = omega (arith, lt, c.loop-link.invariant.count, c.loop-link.sinks.ok.0) in
    let in_olds : l < length olds = omega (arith, lt, c.args.sinks.now.ok.0, count_of st c.args.sinks.now.items) in
    elim c.match-bytes_for.branch [
      | in-Some+in-Ok w ↦
          let here = sink_here st c.loop-link.sinks.items l w.index_mut-sink.result.now inside w.index_mut-sink.ensures.value in
          let new = st w.push.new.self in
          let sinks : map st c.match-bytes_for.sinks.items ≡ set news l new = ap (λ v. map st v.items) w.sinks-is ∙ map-set st c.loop-link.sinks.items l w.push.new.self in
          let wrote : Wrote w.in-Some.bytes.now (st w.index_mut-sink.result.now) new = record { held = w.in-Ok.ensures.all; stays = w.in-Ok.ensures.stays } in
          record {
            count = ap (λ v. vec_len v) w.sinks-is ∙ c.loop-link.invariant.count;
            is_open = subst AreOpen (sym sinks) (open_set news l new (omega (arith, inside, count_of st c.loop-link.sinks.items)) c.loop-link.invariant.is_open w.in-Ok.ensures.stays.stays_open);
            few = (let p = w.place-is in let q = c.loop-link.invariant.few in omega (arith, p, q));
            place = λ f are.
                let bytes = some_bytes (vec_len c.args.sinks.now) l f c.args.sends.now c.loop-link.place w.in-Some.bytes.now lt are (c.loop-link.invariant.place f are) w.in-Some.ensures in
                w.place-is ∙ sym bytes.1;
            first = λ f are.
                let bytes = some_bytes (vec_len c.args.sinks.now) l f c.args.sends.now c.loop-link.place w.in-Some.bytes.now lt are (c.loop-link.invariant.place f are) w.in-Some.ensures in
                subst (WroteFirst (l + 1) f olds) (sym sinks)
                (first_more f olds news l new in_olds (c.loop-link.invariant.first f are)
                (subst (λ b. Wrote b (sink_at news l) new) bytes.0 (subst (λ s. Wrote w.in-Some.bytes.now s new) (sym here) wrote)));
          }
      | in-None w ↦
          let same : c.match-bytes_for.sinks ≡ c.loop-link.sinks = w.sinks-is in
          let sinks : map st c.match-bytes_for.sinks.items ≡ news = ap (λ v. map st v.items) same in
          record {
            count = ap (λ v. vec_len v) same ∙ c.loop-link.invariant.count;
            is_open = subst AreOpen (sym sinks) c.loop-link.invariant.is_open;
            few = (let p = w.place-is in let q = c.loop-link.invariant.few in omega (arith, p, q));
            place = λ f are.
                let none = no_bytes (vec_len c.args.sinks.now) l f c.args.sends.now c.loop-link.place lt are (c.loop-link.invariant.place f are) w.in-None.ensures in
                w.place-is ∙ sym none.1;
            first = λ f are.
                let none = no_bytes (vec_len c.args.sinks.now) l f c.args.sends.now c.loop-link.place lt are (c.loop-link.invariant.place f are) w.in-None.ensures in
                subst (WroteFirst (l + 1) f olds) (sym sinks) (first_same f olds news l (c.loop-link.invariant.first f are) (c.loop-link.invariant.is_open l (omega (arith, inside, count_of st c.loop-link.sinks.items))) none.0);
          }
    ]
