use Rattle.std.proofs.Common.{◌<◌, Some, length, ◌∙◌, subst, arith}
use Rattle.rd_history.proofs.Beginnings.{prefix_trans}
use Rattle.rd_lent_book.specs.Lending.{BookView, IsHeard}
use Rattle.rd_shared_book.proofs.Lending.{heard_more, set_later, some_within}
use Rattle.rd_shared_book.proofs.lender.LenderLentBook.be_heeded.Goals as goal

pub loop-place-preserved : goal.loop-place-preserved
loop-place-preserved g c =
    let first = c.self.inside in
    let now = c.loop-place in
    record {
      count = now.invariant.count;
      goes_on = prefix_trans first.seat.learns now.seat.learns c.heed_from.new.own.learns now.invariant.goes_on c.heed_from.ensures.goes_on;
      still = λ n le. set_later now.slots.items now.place n c.heed_from.new.slot (omega arith) ∙ now.invariant.still n (omega arith);
      heard = heard_more first.seat.learns now.seat.learns first.slots.items now.slots.items now.place c.index_mut.result.now now.invariant.goes_on c.index_mut.ensures.value (now.invariant.still now.place (omega arith)) c.heed_from.ensures.heard now.invariant.heard;
    }

pub returns : goal.returns
returns g c =
    let size = c.self.inside.slots.ok.0 in
    let end = c.loop-place-test.false in
    let many = c.len-place-end.ensures in
    record {
      heard = subst (λ (v : BookView). IsHeard v) c.self.view_is (λ n seat is.
          let within = some_within c.self.inside.slots.items n (Some seat) is in
          c.loop-place.invariant.heard n seat (omega arith) is);
    }
