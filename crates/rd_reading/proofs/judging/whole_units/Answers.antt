use Rattle.std.proofs.Common.{List, subst}
use Rattle.rd_rules.specs.Exchange.{LinkUnit, token_lists}
use Rattle.rd_reading.specs.Alike.{AreJudged}
use Rattle.rd_reading.proofs.judging.whole_units.Goals as goal

pub returns-clause-copies : goal.returns-clause-copies
returns-clause-copies g c =
    let grammar = g.D.Dialect.grammar c.args.dialect.now in
    let P : List LinkUnit → Type 0 = λ us. AreJudged (token_lists grammar c.args.due us) c.in_ok-copies.copies in
    subst P c.as_slice.ensures.value c.in_ok-copies.ensures
