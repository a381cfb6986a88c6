use Rattle.std.proofs.Common.{ap, sym, ◌∙◌, arith}
use Rattle.rd_core.proofs.Quieted.{waits-for}
use Rattle.rd_core.proofs.plan.still_waits.Goals as goal

pub returns : goal.returns
returns g c = λ same.
    let grammar = g.D.Dialect.grammar c.args.dialect.now in
    waits-for grammar c.args.setup.now c.args.stage.now c.in-Some.request c.args.looks.now c.in-Some.is (omega (arith, c.if-stage-setup.false))
    (sym (c.is_farewell.ensures ∙ ap grammar.is_farewell c.note_of.ensures) ∙ c.if-is_farewell.false)
    c.requires.looks (sym c.some_part.ensures ∙ same)
