use Rattle.std.proofs.Common.{ℕ, Bool, List, [], ◌∷◌, ap, sym, ◌∙◌, arith}
use Rattle.std.specs.Prelude.{◌&&◌, fold, filter, take}
use Rattle.std.proofs.lemmas.List.{take_all}
use Rattle.rd_base.specs.Swap.{is_row_word}
use Rattle.rd_rules.specs.Wanted.{add_word, is_unknown}
use Rattle.rd_core.proofs.Asked.{asked_more, length-taken}
use Rattle.rd_core.proofs.wanted.push_all.Goals as goal

pub loop-place-init : goal.loop-place-init
loop-place-init c = record { words = sym (take_all 4096 c.args.words.now c.requires); most = c.requires }

pub loop-place-preserved : goal.loop-place-preserved
loop-place-preserved c =
    let test : List ℕ → Bool = λ w. is_row_word w && is_unknown c.args.own.now w in
    let words = asked_more 4096 test c.args.words.now c.loop-place.words c.push_unknown.new.words c.args.asked.now c.loop-place.place c.at.result.now
    (omega (arith, c.loop-place-test.true, c.len-place-end.ensures)) c.loop-place.invariant.words
    (c.in_ok-push_unknown.ensures ∙ ap (λ w. take 4096 (fold add_word c.loop-place.words (filter test (w ∷ [])))) c.at.ensures) in
    record { words = words; most = length-taken 4096 c.push_unknown.new.words (fold add_word c.loop-place.words (filter test (c.at.result.now ∷ []))) c.in_ok-push_unknown.ensures }

pub returns : goal.returns
returns c =
    let test : List ℕ → Bool = λ w. is_row_word w && is_unknown c.args.own.now w in
    c.loop-place.invariant.words
    ∙ ap (λ ws. take 4096 (fold add_word c.args.words.now (filter test ws))) (take_all c.loop-place.place c.args.asked.now (omega (arith, c.loop-place-test.false, c.len-place-end.ensures)))
