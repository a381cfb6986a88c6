use Rattle.std.proofs.Common.{◌≡◌, ◌++◌, drop, map}
use Rattle.std.specs.Char.{to_ascii_lowercase}
use Rattle.toml.specs.View.{items_view}
use Rattle.rd_conf.specs.Lists.{texts_of}
use Rattle.rd_conf.proofs.texts.names_of.Given as goal

abbrev pub invariant-loop-item : goal.invariant-loop-item
invariant-loop-item l =
    l.names ++ map (map to_ascii_lowercase) (texts_of (items_view (drop l.item-index l.items)))
    ≡ map (map to_ascii_lowercase) (texts_of (items_view l.items))
