use Rattle.std.proofs.Common.{◌∙◌, sym, append_assoc, append-nil}
use Rattle.rd_conf.proofs.TextLemmas.{texts_from, texts_over}
use Rattle.rd_conf.proofs.texts.words_of.Goals as goal

pub loop-item-preserved : goal.loop-item-preserved
loop-item-preserved c =
    let step = texts_from c.args.items.now c.loop-item.item-index c.item-item.result c.loop-item-test.true c.item-item.is in
    rw (c.in_ok-push_word.ensures, append_assoc, ← step) c.loop-item.invariant

pub returns : goal.returns
returns c =
    let over = texts_over c.args.items.now c.loop-item.item-index c.loop-item-test.false in
    sym (append-nil c.loop-item.words) ∙ (rw (← over) c.loop-item.invariant)
