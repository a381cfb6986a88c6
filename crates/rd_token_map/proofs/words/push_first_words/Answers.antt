use Rattle.std.proofs.Common.{◌∙◌, ◌+◌, ◌++◌, ap, sym, drop, take, arith, append_assoc}
use Rattle.rd_token_map.specs.WordsIn.{words_in_form, words_of_pair}
use Rattle.rd_token_map.proofs.Pairs.{words_more, words_last}
use Rattle.rd_token_map.proofs.words.push_first_words.Goals as goal

pub returns-then-end-text-clause-same : goal.returns-then-end-text-clause-same
returns-then-end-text-clause-same c =
    let text = c.args.text.now in
    let end = c.first_or_len-end.result in
    ap (λ t. c.args.words.now ++ t) (words_more text end c.first_or_len-end.ensures.place c.if-end-text.true)
    ∙ sym (append_assoc c.args.words.now (words_of_pair (take end text)) (words_in_form (drop (end + 1) text)))
    ∙ ap (λ t. t ++ words_in_form (drop (end + 1) text)) (sym c.in_ok-push_pair_words.ensures)

pub returns-else-end-text-clause-same : goal.returns-else-end-text-clause-same
returns-else-end-text-clause-same c =
    let text = c.args.text.now in
    let end = c.first_or_len-end.result in
    ap (λ t. c.args.words.now ++ t) (words_last text end c.first_or_len-end.ensures.place (omega arith))
    ∙ sym (append_assoc c.args.words.now (words_of_pair (take end text)) (words_in_form (drop end text)))
    ∙ ap (λ t. t ++ words_in_form (drop end text)) (sym c.in_ok-push_pair_words.ensures)
