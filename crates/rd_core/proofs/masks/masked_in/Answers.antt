use Rattle.std.proofs.Common.{ap, sym, ◌∙◌}
use Rattle.std.specs.Prelude.{sum_by}
use Rattle.rd_rules.specs.Step.{masked_now}
use Rattle.rd_reading.specs.declared.exchange.DoneExchange.{DoneExchange}
use Rattle.rd_reading.specs.Seen.{seen_reading}
use Rattle.rd_core.specs.Masks.{masked_asked}
use Rattle.rd_core.proofs.Counted.{replies_counted, fresh_counted}
use Rattle.rd_core.proofs.masks.masked_in.Goals as goal

pub returns-in-Incoming-clause-is : goal.returns-in-Incoming-clause-is
returns-in-Incoming-clause-is c = λ r all out.
    c.in_replies.ensures.sum
    ∙ ap (sum_by (λ (x : DoneExchange). x.replies.masked)) c.as_slice.ensures.value
    ∙ replies_counted r c.args.reading.now.done.items all
    ∙ ap (λ side. masked_now side r c.args.was_out (seen_reading c.args.reading.now)) (sym c.in-Incoming.is)

pub returns-in-Outgoing-clause-is : goal.returns-in-Outgoing-clause-is
returns-in-Outgoing-clause-is c = λ r all out.
    c.in_fresh.ensures.is
    ∙ ap (λ xs. masked_asked c.args.was_out xs c.args.reading.now.out) c.as_slice-in-Outgoing.ensures.value
    ∙ fresh_counted r c.args.was_out c.args.reading.now.done.items c.args.reading.now.out all out
    ∙ ap (λ side. masked_now side r c.args.was_out (seen_reading c.args.reading.now)) (sym c.in-Outgoing.is)
