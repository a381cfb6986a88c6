use Rattle.std.proofs.Common.{sym, ◌∙◌, ap, ◌∷◌, ◌++◌, [], arith, ℕ, List, subst, ◌<◌}
use Rattle.std.specs.List.{All}
use Rattle.rd_verdict.proofs.Alike.{alike_no_fault}
use Rattle.rd_verdict.proofs.Places.{verdict_more, masked_more, masked_same, masked_all}
use Rattle.rd_verdict.proofs.judging.judge_lists.Goals as goal
use Rattle.rd_verdict.proofs.judging.judge_lists.Goals.{then-is_masked_at, else-is_masked_at}

pub loop-place-preserved-then-is_alike_at : goal.loop-place-preserved-then-is_alike_at
loop-place-preserved-then-is_alike_at c =
    let lists = c.args.lists.now in
    let place = c.loop-place.place in
    let none = alike_no_fault c.args.most lists place (omega arith) (sym c.is_alike_at.ensures ∙ c.if-is_alike_at.true) in
    record {
      rest = c.loop-place.invariant.rest ∙ verdict_more c.args.most lists place c.longest_of-places.result c.loop-place-test.true none.0;
      masks = c.loop-place.invariant.masks ∙ sym (masked_same lists place none.1);
      places = c.loop-place.invariant.places;
    }

pub push-requires-clause-rising : goal.push-requires-clause-rising
push-requires-clause-rising c =
    subst (λ (m : List ℕ). All (λ p. p < c.loop-place.place) m) (sym c.loop-place.invariant.masks) (λ k d lt. (masked_all c.args.lists.now c.loop-place.place k d lt).0)

pub loop-place-preserved : goal.loop-place-preserved
loop-place-preserved c =
    let lists = c.args.lists.now in
    let place = c.loop-place.place in
    record {
      rest = c.loop-place.invariant.rest ∙ verdict_more c.args.most lists place c.longest_of-places.result c.loop-place-test.true (sym c.fault_at.ensures ∙ c.in_default.is);
      masks = elim c.if-is_masked_at.branch [
        | then-is_masked_at w ↦ w.mask-is ∙ w.push.ensures ∙ ap (λ m. m ++ place ∷ []) c.loop-place.invariant.masks ∙ sym (masked_more lists place (sym c.is_masked_at.ensures ∙ w.if-is_masked_at.true))
        | else-is_masked_at w ↦ w.mask-is ∙ c.loop-place.invariant.masks ∙ sym (masked_same lists place (sym c.is_masked_at.ensures ∙ w.if-is_masked_at.false))
      ];
      places = c.loop-place.invariant.places;
    }
