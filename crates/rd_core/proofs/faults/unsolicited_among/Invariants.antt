use Rattle.std.proofs.Common.{◌≡◌, drop}
use Rattle.std.specs.Prelude.{option_map}
use Rattle.rd_core.specs.Faults.{past_among}
use Rattle.rd_reading.specs.Seen.{seen_request}
use Rattle.rd_core.proofs.faults.unsolicited_among.Given as goal

abbrev pub invariant-loop-one : goal.invariant-loop-one
invariant-loop-one g l =
    let grammar = g.D.Dialect.grammar l.dialect in
    let out = option_map seen_request l.out in
    past_among grammar out l.link.0 l.opens ≡ past_among grammar out l.link.0 (drop l.one-index l.opens)
