use Rattle.std.proofs.Common.{◌≡◌, take}
use Rattle.rd_serve_rows.specs.Marked.{AreSources}
use Rattle.rd_serve_rows.proofs.links.are_sources.Given as goal

abbrev pub invariant-loop-source : goal.invariant-loop-source
invariant-loop-source g l = (l.link ≡ l.source-index) × AreSources l.fn.number l.link (take l.link l.fn.sources)
