use Rattle.std.proofs.Common.{append_assoc, ap, ◌∙◌}
use Rattle.std.specs.Prelude.{codes}
use Rattle.rd_session_run.specs.Summaries.{count_line}
use Rattle.rd_session_run.proofs.summary.Summary.print_bytes.Goals as goal

pub returns : goal.returns
returns c =
    let masked = c.in_ok-masked.ensures ∙ ap (count_line (codes "masked")) c.from.ensures in
    rw (← c.in_ok-to_client.ensures, ← c.in_ok-to_instances.ensures, ← masked) (simp append_assoc c.format.ensures.ok)
