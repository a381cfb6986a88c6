use Rattle.std.proofs.Common.{ap, ◌∙◌, arith, length}
use Rattle.rd_rules.specs.Exchange.{first_bytes}
use Rattle.rd_reading.specs.Seen.{seen_request}
use Rattle.rd_reading.proofs.WholeUnits.{answered_by, length-past}
use Rattle.rd_reading.proofs.read.after_exchange.Goals as goal

pub phase_after-phase-requires : goal.phase_after-phase-requires
phase_after-phase-requires g c =
    answered_by (g.D.Dialect.grammar c.args.dialect.now) (seen_request c.args.exchange.now.request) c.args.exchange.now.replies.units.items c.note_of-note.result c.first_bytes.result.now
    c.note_of-note.ensures (c.first_bytes.ensures ∙ ap first_bytes c.as_slice-replies.ensures.value) c.requires.answered

pub of-requires-clause-some : goal.of-requires-clause-some
of-requires-clause-some g c =
    let size = ap length c.in_ok-asking.ensures ∙ length-past c.as_slice.result.now c.as_slice-2.result.now ∙ ap length c.as_slice.ensures.value in
    omega (arith, size, c.args.front.now.asking.some_links)

pub of-requires-clause-few : goal.of-requires-clause-few
of-requires-clause-few g c =
    let size = ap length c.in_ok-asking.ensures ∙ length-past c.as_slice.result.now c.as_slice-2.result.now ∙ ap length c.as_slice.ensures.value in
    omega (arith, size, c.args.front.now.asking.few_links)

pub of-requires-2-clause-some : goal.of-requires-2-clause-some
of-requires-2-clause-some g c =
    let size = ap length c.in_ok-answering.ensures ∙ length-past c.as_slice-3.result.now c.as_slice-replies.result.now ∙ ap length c.as_slice-3.ensures.value in
    omega (arith, size, c.args.front.now.answering.some_links)

pub of-requires-2-clause-few : goal.of-requires-2-clause-few
of-requires-2-clause-few g c =
    let size = ap length c.in_ok-answering.ensures ∙ length-past c.as_slice-3.result.now c.as_slice-replies.result.now ∙ ap length c.as_slice-3.ensures.value in
    omega (arith, size, c.args.front.now.answering.few_links)
