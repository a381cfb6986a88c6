use Rattle.std.proofs.Common.{ap, sym, ◌∙◌}
use Rattle.std.specs.Prelude.{option_map}
use Rattle.rd_rules.specs.Exchange.{units}
use Rattle.rd_reading.proofs.WholeUnits.{asked_whole}
use Rattle.rd_reading.proofs.read.request_at.Goals as goal

pub returns-in-Some-agreement-clause-whole : goal.returns-in-Some-agreement-clause-whole
returns-in-Some-agreement-clause-whole g c =
    let grammar = g.D.Dialect.grammar c.args.dialect.now in
    let phase = c.args.front.now.phase in
    asked_whole grammar (g.met.D.Dialect.lawful c.args.dialect.now) phase c.args.front.now.asking.opens.items c.in-Some.field-0.units.items c.args.front.now.asking.some_links
    (ap (λ d. units grammar d c.args.front.now.asking.opens.items) (sym c.request.ensures)
    ∙ ap (units grammar c.request.result) (sym c.as_slice.ensures.value)
    ∙ sym c.in_ok-found.ensures.units
    ∙ ap (option_map (λ w. w.units.items)) c.in-Some.is)
