use Rattle.std.proofs.Common.{◌≡◌, ◌∷◌, [], ◌++◌, ◌<◌, length, map, take, get_or, set, sym, subst, ap, ◌∙◌, arith}
use Rattle.std.proofs.lemmas.List.{length-set}
use Rattle.rd_rules.specs.Step.{grow_by}
use Rattle.rd_reading.specs.Room.{HasRoom}
use Rattle.rd_reading.specs.Extents.{all_cut_back}
use Rattle.rd_reading.proofs.CutBack.{failed_back, same_at, same_behind, written, mapped_more}
use Rattle.rd_reading.proofs.growth.grow_all.Goals as goal

pub grow-requires : goal.grow-requires
grow-requires c =
    let i = c.loop-place.place in
    let opens = c.loop-place.opens.items in
    let old = c.args.opens.now.items in
    let o = c.index_mut.result.now in
    let lt : i < length opens = omega (arith, c.loop-place-test.true, c.loop-place.invariant.count) in
    let is : get_or old i o ≡ o = sym (same_at opens old i o lt c.loop-place.invariant.count c.loop-place.invariant.rest) ∙ sym c.index_mut.ensures.value in
    subst (HasRoom c.args.what.now) is (c.requires.room i o (omega (arith, lt, c.loop-place.invariant.count)))

pub returns-in-Err-clause-err : goal.returns-in-Err-clause-err
returns-in-Err-clause-err c =
    let i = c.loop-place.place in
    let opens = c.loop-place.opens.items in
    let same = c.in-Err.ensures.err in
    let is : c.grow.new.self ≡ get_or opens i c.grow.new.self = same ∙ c.index_mut.ensures.value ∙ ap (get_or opens i) (sym same) in
    c.cut_all_back.ensures.items
    ∙ ap (λ es. all_cut_back es (set opens i c.grow.new.self)) c.requires.extents
    ∙ failed_back c.args.what.now opens c.args.opens.now.items i c.grow.new.self (omega (arith, c.loop-place-test.true, c.loop-place.invariant.count)) c.loop-place.invariant.grown c.loop-place.invariant.rest is

pub loop-place-preserved : goal.loop-place-preserved
loop-place-preserved c =
    let i = c.loop-place.place in
    let opens = c.loop-place.opens.items in
    let old = c.args.opens.now.items in
    let o = c.index_mut.result.now in
    let f = grow_by c.args.what.now in
    let lt : i < length opens = omega (arith, c.loop-place-test.true, c.loop-place.invariant.count) in
    let is : get_or old i o ≡ o = sym (same_at opens old i o lt c.loop-place.invariant.count c.loop-place.invariant.rest) ∙ sym c.index_mut.ensures.value in
    let grown : c.grow.new.self ≡ f (get_or old i o) = c.in_default.ensures.ok ∙ ap f (sym is) in
    record {
      grown = written opens (map f (take i old)) i c.grow.new.self lt c.loop-place.invariant.grown
          ∙ ap (λ x. map f (take i old) ++ x ∷ []) grown
          ∙ sym (mapped_more f old i o (omega (arith, lt, c.loop-place.invariant.count)));
      rest = same_behind opens old i c.grow.new.self lt c.loop-place.invariant.count c.loop-place.invariant.rest;
      count = length-set opens i c.grow.new.self ∙ c.loop-place.invariant.count;
    }
