use Rattle.std.proofs.Common.{◌≡◌, take}
use Rattle.rd_base.proofs.names.Names.copied.Given as goal

abbrev pub invariant-loop-name : goal.invariant-loop-name
invariant-loop-name l = l.names-inside.kept.items ≡ take l.name-index l.name-items
