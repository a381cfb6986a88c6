use Rattle.std.proofs.Common.{◌∙◌, ◌+◌, ◌++◌, [], ◌∷◌, ap, sym, drop, take, arith, append_assoc}
use Rattle.rd_token_map.specs.SwapForm.{swap_form, swap_pair}
use Rattle.rd_token_map.proofs.Pairs.{form_more, form_last}
use Rattle.rd_token_map.proofs.form.push_first_pair.Goals as goal

pub returns-in_ok-push_slice-clause-same : goal.returns-in_ok-push_slice-clause-same
returns-in_ok-push_slice-clause-same c =
    let rows = c.args.own.now ++ c.args.told.now in
    let text = c.args.text.now in
    let end = c.first_or_len-end.result in
    let pair = swap_pair c.args.copy rows (take end text) in
    let later = swap_form c.args.copy rows (drop (end + 1) text) in
    let h = c.in_ok-push_slice.ensures.ok in
    let g = c.in_ok-push_pair.ensures in
    ap (λ t. c.args.out.now ++ t) (form_more c.args.copy rows text end c.first_or_len-end.ensures.place c.if-end-text.true)
    ∙ sym (append_assoc c.args.out.now pair (38 ∷ later))
    ∙ sym (append_assoc (c.args.out.now ++ pair) (38 ∷ []) later)
    ∙ ap (λ t. (t ++ 38 ∷ []) ++ later) (sym g)
    ∙ ap (λ t. t ++ later) (sym h)

pub returns-else-end-text-clause-same : goal.returns-else-end-text-clause-same
returns-else-end-text-clause-same c =
    let rows = c.args.own.now ++ c.args.told.now in
    let text = c.args.text.now in
    let end = c.first_or_len-end.result in
    let pair = swap_pair c.args.copy rows (take end text) in
    let later = swap_form c.args.copy rows (drop end text) in
    ap (λ t. c.args.out.now ++ t) (form_last c.args.copy rows text end c.first_or_len-end.ensures.place (omega arith))
    ∙ sym (append_assoc c.args.out.now pair later)
    ∙ ap (λ t. t ++ later) (sym c.in_ok-push_pair.ensures)
