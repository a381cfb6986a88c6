use Rattle.std.proofs.Common.{◌≡◌, ◌++◌, take, map}
use Rattle.std.specs.Prelude.{codes, string_bytes}
use Rattle.rddr.specs.Outcome.{shown_byte}
use Rattle.rddr.proofs.refusal.unknown_line.Given as goal

abbrev pub invariant-loop-byte : goal.invariant-loop-byte
invariant-loop-byte l = string_bytes l.line ≡ codes "settings: Unknown " ++ map shown_byte (take l.byte-index l.key)
