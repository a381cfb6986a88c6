use Rattle.std.proofs.Common.{◌∙◌, ap, sym, refl, arith, cond, Some, None}
use Rattle.std.proofs.lemmas.Option.{slice_get_read}
use Rattle.rd_base.specs.Verdicts.{masked_fault, plain_fault}
use Rattle.rd_verdict.proofs.Alike.{fault_by}
use Rattle.rd_verdict.proofs.judging.fault_at.Goals as goal

pub returns-in-Some : goal.returns-in-Some
returns-in-Some c =
    let lists = c.args.lists.now in
    let first = slice_get_read lists _ 0 c.index-lists-0.result refl (omega arith) c.index-lists-0.is in
    c.disagreement.ensures ∙ sym (fault_by c.args.most lists c.args.place c.index-lists-0.result (Some c.in-Some.copy) first c.in-Some.ensures.copy)

pub returns-then-is_masked_at : goal.returns-then-is_masked_at
returns-then-is_masked_at c =
    let lists = c.args.lists.now in
    let first = slice_get_read lists _ 0 c.index-lists-0.result refl (omega arith) c.index-lists-0.is in
    c.masked_fault_at.ensures
    ∙ sym (ap (λ t. cond t (masked_fault c.args.most lists c.args.place) (plain_fault lists c.args.place)) (sym c.is_masked_at.ensures ∙ c.if-is_masked_at.true))
    ∙ sym (fault_by c.args.most lists c.args.place c.index-lists-0.result None first c.in-None.ensures.copy)

pub returns-else-is_masked_at : goal.returns-else-is_masked_at
returns-else-is_masked_at c =
    let lists = c.args.lists.now in
    let first = slice_get_read lists _ 0 c.index-lists-0.result refl (omega arith) c.index-lists-0.is in
    c.plain_fault_at.ensures
    ∙ sym (ap (λ t. cond t (masked_fault c.args.most lists c.args.place) (plain_fault lists c.args.place)) (sym c.is_masked_at.ensures ∙ c.if-is_masked_at.false))
    ∙ sym (fault_by c.args.most lists c.args.place c.index-lists-0.result None first c.in-None.ensures.copy)
