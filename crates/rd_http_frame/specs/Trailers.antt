-- What the bytes behind the last size line come to, as a trailer: RFC 9112, section 7.1.2, as httparse's
-- grammar of header fields has it, with a head's bounds: 100 fields and 65,536 bytes.
use Rattle.std.specs.Prelude.{◌≡◌, ℕ, ◌<◌, ◌≤◌, List, length}
use Rattle.httparse.specs.Grammar.{Field, LineEnd, print_section, ReadsSection, HasNoSection, NeverHasSection, MayBecomeSection}
use Rattle.rd_base.specs.declared.values.Scan.{Scan}
use Rattle.rd_base.specs.declared.values.Scan.TheVariants.{Whole, Bad, TooBig}
use Rattle.rd_http_frame.specs.Fronts.{line_feeds, fresh}
use Rattle.rd_http_frame.specs.Heads.{unfinished, seen}

-- the line feeds before the first empty line, which may stand at the front
abbrev pub trailer_feeds : List ℕ → ℕ
trailer_feeds bytes = line_feeds fresh bytes

-- of at most 65,536 bytes
pub data IsSectionScan (bytes : List ℕ) (scan : Scan) : Type 0 where
  ManyLines : 100 < trailer_feeds bytes → scan ≡ TooBig → IsSectionScan bytes scan
  Complete : trailer_feeds bytes ≤ 100 → (fields : List Field) → (last : LineEnd) → (rest : List ℕ) → ReadsSection bytes fields last rest → length fields ≤ 100 → scan ≡ Whole (length (print_section fields last)) → IsSectionScan bytes scan
  Hopeless : trailer_feeds bytes ≤ 100 → NeverHasSection bytes → scan ≡ Bad → IsSectionScan bytes scan
  Open : trailer_feeds bytes ≤ 100 → HasNoSection bytes → MayBecomeSection bytes → scan ≡ unfinished bytes → IsSectionScan bytes scan

-- field lines and an empty line
abbrev pub IsTrailerScan : List ℕ → Scan → Type 0
IsTrailerScan bytes scan = IsSectionScan (seen bytes) scan
