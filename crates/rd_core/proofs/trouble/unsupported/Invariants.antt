use Rattle.std.proofs.Common.{◌≡◌, drop}
use Rattle.rd_core.specs.Looks.{unsupported_look}
use Rattle.rd_core.proofs.trouble.unsupported.Given as goal

abbrev pub invariant-loop-look : goal.invariant-loop-look
invariant-loop-look l = unsupported_look l.looks ≡ unsupported_look (drop l.look-index l.looks)
