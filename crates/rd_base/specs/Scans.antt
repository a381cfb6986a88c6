-- Scans of bytes that stand behind others.
use Rattle.std.specs.Prelude.{ℕ, ◌+◌, Result, Ok, Err}
use Rattle.rd_base.specs.declared.values.Scan.{Scan}
use Rattle.rd_base.specs.declared.values.Scan.TheVariants.{Whole, More, Bad, TooBig, Unsupported}

-- the scan of bytes behind so many others, as one of them all
abbrev pub behind : ℕ → Scan → Scan
behind before (Whole len) = Whole (before + len)
behind before More = More
behind before Bad = Bad
behind before TooBig = TooBig
behind before (Unsupported code) = Unsupported code

-- what follows from what was read, or the scan that there is already
abbrev pub and_then : {A B : Type 0} → Result A Scan → (A → Result B Scan) → Result B Scan
and_then (Ok a) f = f a
and_then (Err scan) f = Err scan
