use Rattle.std.proofs.Common.{◌∙◌, sym, arith}
use Rattle.rd_reading.proofs.Lengths.{fronts-by-lengths}
use Rattle.rd_reading.proofs.fronts.have_fronts.Goals as goal

pub returns-in-Some : goal.returns-in-Some
returns-in-Some g c = λ same.
    fronts-by-lengths (g.D.Dialect.grammar c.args.dialect.now) (g.met.D.Dialect.lawful c.args.dialect.now) c.args.due c.args.links.now.opens.items c.args.looks.now c.in-Some.place _
    (c.args.links.now.fronts c.if-not-links.false) c.requires (omega (arith, c.in-Some.ensures)) (sym c.fit_one.ensures ∙ same)
