use Rattle.std.proofs.Common.{◌∙◌, sym, length, arith, refl}
use Rattle.rd_pg_frame.specs.MessagePlaces.{message_shows}
use Rattle.rd_pg_frame.proofs.Following.{letters_on, letters_end}
use Rattle.rd_pg_frame.proofs.phase.last_letter.Goals as goal

pub loop-message-init : goal.loop-message-init
loop-message-init c = record { within = omega arith; left = (length c.args.bytes.now, omega arith, refl) }

pub loop-message-preserved : goal.loop-message-preserved
loop-message-preserved c =
    let left = c.loop-message.invariant.left in
    let found = sym c.message_at.ensures.value ∙ c.in-Some.is in
    let shown = message_shows c.args.bytes.now c.loop-message.at c.in-Some.message found in
    let on = letters_on c.args.bytes.now c.loop-message.at c.loop-message.letter left.0 c.in-Some.message left.1 found in
    record { within = shown.within; left = (on.0, on.1, left.2 ∙ on.2) }

pub returns : goal.returns
returns c =
    let left = c.loop-message.invariant.left in
    sym (left.2 ∙ letters_end c.args.bytes.now c.loop-message.at c.loop-message.letter left.0 (sym c.message_at.ensures.value ∙ c.in_default.is))
