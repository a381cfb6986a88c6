use Rattle.std.proofs.Common.{◌∙◌, ◌++◌, ap, sym, arith, append-nil}
use Rattle.std.proofs.lemmas.List.{drop_all}
use Rattle.rd_token_map.specs.WordsIn.{words_in_form}
use Rattle.rd_token_map.proofs.Pairs.{no_words}
use Rattle.rd_token_map.proofs.words.push_form_words.Goals as goal

pub returns : goal.returns
returns c =
    let rest = ap words_in_form (drop_all c.loop-at.at c.args.text.now (omega arith)) ∙ no_words in
    sym (c.loop-at.invariant.same ∙ ap (λ t. c.loop-at.words ++ t) rest ∙ append-nil c.loop-at.words)
