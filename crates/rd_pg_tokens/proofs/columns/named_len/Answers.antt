use Rattle.std.proofs.Common.{◌≡◌, ◌+◌, cond, sym, ap, ◌∙◌, arith}
use Rattle.rd_pg_tokens.proofs.NamedColumns.{none_under, passed_on}
use Rattle.rd_pg_tokens.proofs.columns.named_len.Goals.{then-not-is_soft, else-not-is_soft}
use Rattle.rd_pg_tokens.proofs.columns.named_len.Goals as goal

pub returns-then-len-eq0-2-clause-len : goal.returns-then-len-eq0-2-clause-len
returns-then-len-eq0-2-clause-len c =
    sym (none_under c.args.rules.now c.args.count c.args.names.now (omega (arith, c.len.ensures, c.if-len-eq0.true)) (omega (arith, c.len-then-len-eq0.ensures, c.if-len-eq0-2.true)))

pub from-rest-requires : goal.from-rest-requires
from-rest-requires c = c.loop.invariant.here

pub loop-preserved : goal.loop-preserved
loop-preserved c =
    let then : c.if-not-is_soft.named ≡ cond c.is_soft.result c.loop.named (c.loop.at + c.text_len-len.result + 1) =
    elim c.if-not-is_soft.branch [
      | then-not-is_soft w ↦ w.named-is ∙ sym (ap (λ t. cond t c.loop.named (c.loop.at + c.text_len-len.result + 1)) w.if-not-is_soft.true)
      | else-not-is_soft w ↦ w.named-is ∙ sym (ap (λ t. cond t c.loop.named (c.loop.at + c.text_len-len.result + 1)) w.if-not-is_soft.false)
    ] in
    passed_on c.args.rules.now c.args.count c.loop.counter c.args.names.now c.from-rest.result.now c.loop.named c.loop.at c.text_len-len.result c.min-at.result c.if-not-is_soft.named c.shown_under.result c.is_soft.result
    c.loop.invariant c.loop-test.true c.from-rest.ensures c.text_len-len.ensures.len (omega (arith, c.text_len-len.ensures.within, c.if-len-rest.false)) c.shown_under.ensures c.is_soft.ensures c.min-at.ensures then
