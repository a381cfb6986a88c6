-- A head ends with its first empty line behind the line ends at its front, and a trailer with its first: bytes that
-- hold one and begin with no head, or no trailer, are hopeless.
use Rattle.std.specs.Prelude.{◌≡◌, ℕ, ◌≤◌, Bool, true, List}
use Rattle.httparse.specs.Grammar.{HasNoRequest, HasNoResponse, HasNoSection}
use Rattle.rd_base.specs.declared.values.Scan.TheVariants.{Bad}
use Rattle.rd_base.specs.declared.values.Part.{Part}
use Rattle.rd_base.specs.declared.values.Part.TheVariants.{Request, Reply}
use Rattle.rd_http_frame.specs.Fronts.{after_front, head_feeds, has_empty, within, fresh}
use Rattle.rd_http_frame.specs.Heads.{IsHeadScan, seen}
use Rattle.rd_http_frame.specs.Trailers.{trailer_feeds, IsTrailerScan}

abbrev pub holds_empty_line : List ℕ → Bool
holds_empty_line bytes = has_empty within (after_front bytes)

abbrev pub EmptyLineSettles : Part → Type 0
EmptyLineSettles Request =
    (bytes : List ℕ) → holds_empty_line (seen bytes) ≡ true → head_feeds (seen bytes) ≤ 101 → HasNoRequest (seen bytes) → IsHeadScan Request bytes Bad
EmptyLineSettles Reply =
    (bytes : List ℕ) → holds_empty_line (seen bytes) ≡ true → head_feeds (seen bytes) ≤ 101 → HasNoResponse (seen bytes) → IsHeadScan Reply bytes Bad

-- in a trailer, what comes first stands at a line's beginning
abbrev pub EmptyLineSettlesTrailer : Type 0
EmptyLineSettlesTrailer =
    (bytes : List ℕ) → has_empty fresh (seen bytes) ≡ true → trailer_feeds (seen bytes) ≤ 100 → HasNoSection (seen bytes) → IsTrailerScan bytes Bad
