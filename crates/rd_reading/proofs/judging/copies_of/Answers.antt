use Rattle.std.proofs.Common.{◌∙◌, sym}
use Rattle.rd_reading.proofs.EqualUnits.{equal-bare}
use Rattle.rd_reading.proofs.judging.copies_of.Goals as goal

pub returns-then-are_equal : goal.returns-then-are_equal
returns-then-are_equal g c = equal-bare (g.D.Dialect.grammar c.args.dialect.now) c.args.due c.args.units.now (sym c.are_equal.ensures ∙ c.if-are_equal.true)
