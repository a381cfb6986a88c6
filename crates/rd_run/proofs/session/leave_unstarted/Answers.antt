use Rattle.std.proofs.Common.{◌≡◌, ◌+◌, ◌<◌, ℕ, List, [], ◌++◌, length, map, fold, Some, refl, sym, ap, ap₂, ◌∙◌, subst, arith}
use Rattle.std.specs.Prelude.{slice_get, slice_index_or}
use Rattle.std.proofs.lemmas.Option.{slice_get-get_or}
use Rattle.std.proofs.lemmas.List.{map-append, length-map}
use Rattle.rd_base.specs.Sources.{SourceTold}
use Rattle.rd_gate.specs.declared.gate.View.{View}
use Rattle.rd_gate.specs.Gate.{Known, reader, known, joined, of}
use Rattle.rd_start.specs.Back.{WasRead, with_ended}
use Rattle.rd_start.specs.declared.reading.NotStarted.{NotStarted}
use Rattle.rd_run.specs.Leaving.{plain}
use Rattle.rd_run.specs.declared.items.LeftOver.TheVariants.{All}
use Rattle.rd_run.specs.Ran.{LinkRead}
use Rattle.rd_run.specs.Links.{AreFresh, LinksDone}
use Rattle.rd_run.proofs.Leaves.{keeps_more, plain_append}
use Rattle.rd_run.proofs.SessionEnds.{Leaves, link_back, taken_at_end, ended_at_end}
use Rattle.rd_run.proofs.Links.{fresh_at, fresh_front, fresh_rest, joined_all, read_more, none_taken, links_read, links_stay, links_join}
use Rattle.rd_run.proofs.session.leave_unstarted.Goals as goal

pub join_all-requires-clause-gates : goal.join_all-requires-clause-gates
join_all-requires-clause-gates g c = λ k d lt.
    let passes = fresh_front c.args.gate.now.gate 0 (map (λ r. r.1) c.args.readings.items) (map (λ n. n.pass) c.args.unread.items) c.requires.passes in
    ap (λ (p : Known). p.gate) (fresh_at (λ r. r.1) c.args.gate.now.gate 0 c.args.readings.items passes k (slice_index_or c.args.readings.items k d) (slice_get-get_or c.args.readings.items k d lt))
    ∙ sym c.drain-left.ensures.gate

pub take_back-requires-clause-gates : goal.take_back-requires-clause-gates
take_back-requires-clause-gates g c = λ k d lt.
    let passes = fresh_rest c.args.gate.now.gate 0 (map (λ r. r.1) c.args.readings.items) (map (λ n. n.pass) c.args.unread.items) c.requires.passes in
    ap (λ (p : Known). p.gate) (fresh_at (λ n. n.pass) c.args.gate.now.gate (0 + length (map (λ r. r.1) c.args.readings.items)) c.args.unread.items passes k (slice_index_or c.args.unread.items k d) (slice_get-get_or c.args.unread.items k d lt))
    ∙ sym (c.join_all.ensures.gate ∙ c.drain-left.ensures.gate)

pub returns-clause-left : goal.returns-clause-left
returns-clause-left g c =
    let v1 : View = c.drain-left.new.gate.knows in
    let v2 : View = c.join_all.new.owner.knows in
    let v3 : View = c.take_back.new.owner.knows in
    let v4 : View = c.drain_last-left.new.gate.knows in
    let ws : List View = map (λ n. n.pass.knows) c.args.unread.items in
    let leaves : Leaves c.args.gate.now.knows v1 v3 v4 c.left_of.result c.drain-left.result c.drain-left.result c.drain_last-left.result = record {
      first = c.drain-left.ensures.drained;
      joined = c.take_back.ensures.knows ∙ joined_all v2 ws ∙ ap (λ (v : View). with_ended v (fold joined v2 ws).ended) c.join_all.ensures.knows ∙ ap (λ (v : View). with_ended v1 v.ended) (sym c.take_back.ensures.knows);
      last = c.drain_last-left.ensures.drained;
      whole = c.drain_last-left.ensures.whole;
    } in
    record {
      items = leaves.first.items ++ leaves.last.items;
      taken = taken_at_end c.args.gate.now.knows v1 v3 v4 c.left_of.result c.drain-left.result c.drain-left.result c.drain_last-left.result leaves
          ∙ ap (λ xs. xs ++ (plain leaves.first.items ++ plain leaves.last.items)) c.requires.fresh ∙ sym (plain_append leaves.first.items leaves.last.items);
      keeps = keeps_more (All []) c.drain-left.result c.drain_last-left.result leaves.first.items leaves.last.items
          (keeps_more (All []) c.left_of.result c.drain-left.result [] leaves.first.items c.left_of.ensures leaves.first.keeps) leaves.last.keeps;
    }

pub returns-clause-sources : goal.returns-clause-sources
returns-clause-sources g c =
    let tells = g.S.Source.tells in
    let gate = c.args.gate.now.gate in
    let rs = c.args.readings.items in
    let un = c.args.unread.items in
    let v0 : View = c.args.gate.now.knows in
    let v1 : View = c.drain-left.new.gate.knows in
    let v2 : View = c.join_all.new.owner.knows in
    let v3 : View = c.take_back.new.owner.knows in
    let v4 : View = c.drain_last-left.new.gate.knows in
    let ws : List View = map (λ n. n.pass.knows) un in
    let leaves : Leaves v0 v1 v3 v4 c.left_of.result c.drain-left.result c.drain-left.result c.drain_last-left.result = record {
      first = c.drain-left.ensures.drained;
      joined = c.take_back.ensures.knows ∙ joined_all v2 ws ∙ ap (λ (v : View). with_ended v (fold joined v2 ws).ended) c.join_all.ensures.knows ∙ ap (λ (v : View). with_ended v1 v.ended) (sym c.take_back.ensures.knows);
      last = c.drain_last-left.ensures.drained;
      whole = c.drain_last-left.ensures.whole;
    } in
    let ended : v3.ended ≡ (fold joined v2 ws).ended = ap (λ (v : View). v.ended) c.take_back.ensures.knows in
    let first = fresh_front gate 0 (map (λ r. r.1) rs) (map (λ n. n.pass) un) c.requires.passes in
    let rest = fresh_rest gate 0 (map (λ r. r.1) rs) (map (λ n. n.pass) un) c.requires.passes in
    let f : ℕ → List _ = λ l. of l v4.taken in
    let js = c.join_all.new.sources.items in
    let back : List _ = map (λ n. n.source) un in
    let size : length js ≡ length rs = sym c.join_all.new.sources.ok.0 ∙ c.join_all.ensures.count ∙ c.args.readings.ok.0 in
    let read : LinksDone (Unit {0}) f 0 (map tells (map (λ r. r.0) rs)) (map tells js) =
    links_read (Unit {0}) tells f 0 rs js size
    (λ j r s at_r at_s.
    let same : j ≡ 0 + j = omega arith in
    subst (λ n. LinkRead (of n v4.taken) (tells r.0) (tells s)) same
    (link_back tells gate j r s v0 v1 v3 v4 c.left_of.result c.drain-left.result c.drain-left.result c.drain_last-left.result leaves
    (fresh_at (λ q. q.1) gate 0 rs first j r at_r ∙ ap (λ n. known gate (reader n [])) (sym same))
    (subst (WasRead tells r.0 r.1 s) (sym ended) (read_more tells r.0 s r.1 v2 ws (c.join_all.ensures.backs j r s at_r at_s))))) in
    let sizes : 0 + length (map tells (map (λ r. r.0) rs)) ≡ 0 + length (map (λ r. r.1) rs) =
    (let a = length-map (map (λ r. r.0) rs) tells in let b = length-map rs (λ r. r.0) in let d = length-map rs (λ r. r.1) in omega (arith, a, b, d)) in
    let stay : LinksDone (Unit {0}) f (0 + length (map (λ r. r.1) rs)) (map tells back) (map tells back) =
    links_stay (Unit {0}) tells f (0 + length (map (λ r. r.1) rs)) back tt
    (λ j lt. none_taken (λ n. n.pass) gate (0 + length (map (λ r. r.1) rs)) un v2 v4 rest
    (ended_at_end v0 v1 v3 v4 c.left_of.result c.drain-left.result c.drain-left.result c.drain_last-left.result leaves ∙ ended) c.drain_last-left.ensures.whole
    j (let e = length-map un (λ n. n.source) in omega (arith, e, lt))) in
    let both : LinksDone (Unit {0}) f 0 (map tells (map (λ r. r.0) rs) ++ map tells back) (map tells js ++ map tells back) =
    links_join (Unit {0}) f 0 (map tells (map (λ r. r.0) rs)) (map tells js) (map tells back) (map tells back) read (subst (λ n. LinksDone (Unit {0}) f n (map tells back) (map tells back)) (sym sizes) stay) in
    subst (λ xs. LinksDone (Unit {0}) f 0 xs (map tells c.take_back.new.sources.items)) (sym (map-append tells (map (λ r. r.0) rs) back))
    (subst (λ ys. LinksDone (Unit {0}) f 0 (map tells (map (λ r. r.0) rs) ++ map tells back) ys) (sym (ap (map tells) c.take_back.ensures.sources ∙ map-append tells js back)) both)
