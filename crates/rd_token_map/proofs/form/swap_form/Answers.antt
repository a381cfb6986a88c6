use Rattle.std.proofs.Common.{◌∙◌, ◌++◌, ap, sym, arith, append-nil}
use Rattle.std.proofs.lemmas.List.{drop_all}
use Rattle.rd_token_map.specs.SwapForm.{swap_form}
use Rattle.rd_token_map.proofs.Pairs.{empty_form}
use Rattle.rd_token_map.proofs.form.swap_form.Goals as goal

pub returns : goal.returns
returns c =
    let rows = c.args.own.now ++ c.args.told.now in
    let rest = ap (swap_form c.args.copy rows) (drop_all c.loop-at.at c.args.text.now (omega arith)) ∙ empty_form c.args.copy rows in
    sym (c.loop-at.invariant.same ∙ ap (λ t. c.loop-at.out ++ t) rest ∙ append-nil c.loop-at.out)
