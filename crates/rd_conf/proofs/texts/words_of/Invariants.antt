use Rattle.std.proofs.Common.{◌≡◌, ◌++◌, drop}
use Rattle.toml.specs.View.{items_view}
use Rattle.rd_conf.specs.Lists.{texts_of}
use Rattle.rd_conf.proofs.texts.words_of.Given as goal

abbrev pub invariant-loop-item : goal.invariant-loop-item
invariant-loop-item l = l.words ++ texts_of (items_view (drop l.item-index l.items)) ≡ texts_of (items_view l.items)
