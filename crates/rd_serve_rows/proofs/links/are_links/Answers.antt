use Rattle.std.proofs.Common.{◌≡◌, ◌+◌, length, map, sym, subst, rules}
use Rattle.rd_doors.specs.Visits.{AreFresh}
use Rattle.rd_serve_rows.specs.Marked.{AreSources, AreSinks, source_told, sink_told}
use Rattle.rd_serve_rows.proofs.Marking.{are_fresh}
use Rattle.rd_serve_rows.proofs.links.are_links.Goals as goal

pub returns-then-are_sources-clause-fresh : goal.returns-then-are_sources-clause-fresh
returns-then-are_sources-clause-fresh g c holds =
    let ends = c.args.ends.now in
    let number : ends.number ≡ c.args.number = search rules in
    let sources : length ends.sources.items ≡ c.args.copies + 1 = search rules in
    let sinks : length ends.sinks.items ≡ c.args.copies + 1 = search rules in
    let marked : AreSources c.args.number (length ends.sources.items) ends.sources.items = search rules in
    let holes : AreSinks c.args.number (length ends.sinks.items) ends.sinks.items = search rules in
    subst (λ n. AreFresh c.args.copies (record { number = n; sources = map source_told ends.sources.items; sinks = map sink_told ends.sinks.items })) (sym number)
    (are_fresh c.args.copies c.args.number ends.sources.items ends.sinks.items sources sinks marked holes)
