use Rattle.std.proofs.Common.{ap, sym, ◌∙◌, ◌≡◌}
use Rattle.std.specs.Prelude.{option_map}
use Rattle.rd_dialect.specs.Due.{reply_due}
use Rattle.rd_rules.specs.Exchange.{units, note, empty_unit}
use Rattle.std.proofs.Common.{map}
use Rattle.rd_reading.specs.Seen.{seen_request}
use Rattle.rd_reading.proofs.WholeUnits.{answered_farewell, answered_whole}
use Rattle.rd_reading.proofs.read.replies_to.Goals as goal

pub returns-then-is_farewell-clause-whole : goal.returns-then-is_farewell-clause-whole
returns-then-is_farewell-clause-whole g c =
    let grammar = g.D.Dialect.grammar c.args.dialect.now in
    answered_farewell grammar (seen_request c.args.request.now) c.args.front.now.answering.opens.items c.in_ok-replies.replies.units.items
    (sym (c.is_farewell.ensures ∙ ap grammar.is_farewell c.note_of-note.ensures) ∙ c.if-is_farewell.true)
    (c.in_ok-replies.ensures.units ∙ ap (map empty_unit) c.as_slice.ensures.value)

pub returns-in_ok-rows-in-Some-agreement-clause-whole : goal.returns-in_ok-rows-in-Some-agreement-clause-whole
returns-in_ok-rows-in-Some-agreement-clause-whole g c =
    let grammar = g.D.Dialect.grammar c.args.dialect.now in
    let ask = seen_request c.args.request.now in
    let due : c.reply-due.result ≡ reply_due ask.phase (note grammar ask) = c.reply-due.ensures ∙ ap (reply_due ask.phase) c.note_of-note.ensures in
    answered_whole grammar (g.met.D.Dialect.lawful c.args.dialect.now) ask c.args.front.now.answering.opens.items c.in-Some.field-0.units.items c.args.front.now.answering.some_links
    (ap (λ d. units grammar d c.args.front.now.answering.opens.items) (sym due)
    ∙ ap (units grammar c.reply-due.result) (sym c.as_slice-2.ensures.value)
    ∙ sym c.in_ok-found.ensures.units
    ∙ ap (option_map (λ w. w.units.items)) c.in-Some.is)
