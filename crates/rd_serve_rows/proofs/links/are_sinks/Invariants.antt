use Rattle.std.proofs.Common.{◌≡◌, take}
use Rattle.rd_serve_rows.specs.Marked.{AreSinks}
use Rattle.rd_serve_rows.proofs.links.are_sinks.Given as goal

abbrev pub invariant-loop-sink : goal.invariant-loop-sink
invariant-loop-sink l = (l.link ≡ l.sink-index) × AreSinks l.fn.number l.link (take l.link l.fn.sinks)
