use Rattle.std.proofs.Common.{◌≡◌, ◌∙◌, sym, length}
use Rattle.rd_conf.proofs.TextLemmas.{addresses_from_values, other_count}
use Rattle.rd_conf.proofs.texts.are_addresses.Goals as goal

pub returns-then-items-from : goal.returns-then-items-from
returns-then-items-from c =
    let count : length c.args.items.now ≡ c.args.copies = cc in
    addresses_from_values c.hold_addresses.result c.args.copies c.args.items.now c.requires count c.hold_addresses.ensures

pub returns-else-items-from : goal.returns-else-items-from
returns-else-items-from c =
    rw c.from.ensures (other_count c.args.copies c.args.items.now c.requires (λ same. absurd (c.if-items-from.false (same ∙ sym c.from.ensures))))
