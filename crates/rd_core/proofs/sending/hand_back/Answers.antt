use Rattle.std.proofs.Common.{ap, ◌∙◌}
use Rattle.rd_rules.specs.Exchange.{first_bytes}
use Rattle.rd_reading.specs.Seen.{seen_request}
use Rattle.rd_reading.proofs.WholeUnits.{answered_by}
use Rattle.rd_core.proofs.sending.hand_back.Goals as goal

pub shown_from-from-requires : goal.shown_from-from-requires
shown_from-from-requires g c =
    answered_by (g.D.Dialect.grammar c.args.dialect.now) (seen_request c.args.exchange.now.request) c.args.exchange.now.replies.units.items c.note_of-note.result c.first_bytes-reply.result.now
    c.note_of-note.ensures (c.first_bytes-reply.ensures ∙ ap first_bytes c.as_slice.ensures.value) c.requires.answered
