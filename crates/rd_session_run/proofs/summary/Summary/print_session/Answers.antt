use Rattle.std.proofs.Common.{append_assoc, ap, ◌∙◌}
use Rattle.std.specs.Prelude.{codes}
use Rattle.rd_session_run.specs.Summaries.{count_line}
use Rattle.rd_session_run.proofs.summary.Summary.print_session.Goals as goal

pub returns : goal.returns
returns c =
    let copies = c.in_ok-copies.ensures ∙ ap (count_line (codes "copies")) c.from.ensures in
    let exchanges = c.in_ok-exchanges.ensures ∙ ap (count_line (codes "exchanges")) c.from-2.ensures in
    let events = c.in_ok-events.ensures ∙ ap (count_line (codes "events")) c.from-3.ensures in
    rw (← copies, ← exchanges, ← events) (simp append_assoc c.format.ensures.ok)
