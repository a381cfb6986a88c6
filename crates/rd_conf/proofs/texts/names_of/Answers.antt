use Rattle.std.proofs.Common.{◌∙◌, sym, append_assoc, append-nil}
use Rattle.std.proofs.lemmas.List.{map-append}
use Rattle.rd_conf.proofs.TextLemmas.{texts_from, texts_over}
use Rattle.rd_conf.proofs.texts.names_of.Goals as goal

pub loop-item-preserved : goal.loop-item-preserved
loop-item-preserved c =
    let step = texts_from c.args.items.now c.loop-item.item-index c.item-item.result c.loop-item-test.true c.item-item.is in
    rw (c.in_ok-push_name.ensures, append_assoc, ← map-append, ← step) c.loop-item.invariant

pub returns : goal.returns
returns c =
    let over = texts_over c.args.items.now c.loop-item.item-index c.loop-item-test.false in
    sym (append-nil c.loop-item.names) ∙ (rw over at c.loop-item.invariant)
