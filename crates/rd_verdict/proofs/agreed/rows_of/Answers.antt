use Rattle.std.proofs.Common.{◌≡◌, ◌∙◌, ◌+◌, [], ◌++◌, drop, ap, sym, append-nil}
use Rattle.std.specs.Prelude.{option_to_list}
use Rattle.rd_base.specs.Verdicts.{rows_at, texts_at}
use Rattle.rd_verdict.proofs.AgreedPlaces.{agreed_soft}
use Rattle.rd_verdict.proofs.RowMade.{rows_more, row_with}
use Rattle.rd_verdict.proofs.agreed.rows_of.Goals as goal
use Rattle.rd_verdict.proofs.agreed.rows_of.Goals.{in-Some+in_ok-push, in_default}

pub row_at-requires-clause-soft : goal.row_at-requires-clause-soft
row_at-requires-clause-soft c =
    let soft = agreed_soft (record { places = 64; bytes = 128 }) c.args.copies.now c.args.mask.now c.loop-index.index c.at.result c.requires.agreed c.at.ensures in
    rw c.lists-lists.ensures.lists soft

pub loop-index-preserved : goal.loop-index-preserved
loop-index-preserved c =
    let lists = c.args.copies.now in
    let mask = c.args.mask.now in
    let later = rows_at lists (drop (c.loop-index.index + 1) mask) in
    let row = ap (λ ls. row_with [] (texts_at ls c.at.result)) c.lists-lists.ensures.lists in
    let more : rows_at lists mask ≡ (c.loop-index.rows ++ option_to_list c.row_at.result) ++ later = rows_more lists mask c.loop-index.index c.at.result (rows_at lists mask) c.loop-index.rows c.row_at.result c.at.ensures (c.row_at.ensures ∙ row) c.loop-index.invariant in
    elim c.match-row_at.branch [
      | in-Some+in_ok-push w ↦ more ∙ ap (λ r. (c.loop-index.rows ++ option_to_list r) ++ later) w.in-Some.is ∙ ap (λ rs. rs ++ later) (sym w.in_ok-push.ensures.ok) ∙ ap (λ rs. rs ++ later) (sym w.rows-is)
      | in_default w ↦ more ∙ ap (λ r. (c.loop-index.rows ++ option_to_list r) ++ later) w.in_default.is ∙ ap (λ rs. rs ++ later) (append-nil c.loop-index.rows ∙ sym w.rows-is)
    ]
