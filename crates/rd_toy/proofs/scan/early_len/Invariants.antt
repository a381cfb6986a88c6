use Rattle.std.proofs.Common.{◌≡◌, ◌+◌, drop, false}
use Rattle.rd_toy.specs.ToyGrammar.{early_len}
use Rattle.rd_toy.proofs.scan.early_len.Given as goal

abbrev pub invariant-loop-i : goal.invariant-loop-i
invariant-loop-i l = early_len false l.bytes ≡ l.i + early_len l.has_begun (drop l.i l.bytes)
