use Rattle.std.proofs.Common.{None, cond, map, ap, ap₂, sym, ◌∙◌}
use Rattle.rd_rules.specs.Step.{grow_by}
use Rattle.rd_rules.specs.Trouble.{unsolicited_by, unsolicited_among}
use Rattle.rd_core.specs.Faults.{past_among}
use Rattle.rd_core.proofs.Faulty.{past_grown}
use Rattle.rd_core.proofs.faults.unsolicited.Goals as goal

pub returns : goal.returns
returns g c = λ before out answering.
    let grammar = g.D.Dialect.grammar c.args.dialect.now in
    let link = c.in-Piece.link in
    let piece = c.in-Piece.field-1 in
    let here = unsolicited_among grammar before.out link.0 piece before.left.answering in
    c.unsolicited_among.ensures
    ∙ ap₂ (λ o links. past_among grammar o link.0 links) (sym out) answering
    ∙ ap (λ w. past_among grammar before.out link.0 (map (grow_by w) before.left.answering)) c.in-Piece.is
    ∙ past_grown grammar before.out link piece before.left.answering
    ∙ ap (λ b. cond b None here) (sym (sym c.early_replies.ensures ∙ c.if-early_replies.false))
    ∙ ap (unsolicited_by grammar before) (sym c.in-Piece.is)
