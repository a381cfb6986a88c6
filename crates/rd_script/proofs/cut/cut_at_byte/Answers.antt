use Rattle.std.proofs.Common.{◌==◌, drop, length, ◌∙◌, sym, arith, ◌-◌, ◌+◌, length-drop}
use Rattle.std.proofs.lemmas.List.{take_all}
use Rattle.rd_script.proofs.Parts.{uncut, is_cut}
use Rattle.rd_script.proofs.cut.cut_at_byte.Goals as goal

pub returns-in_err-at-clause-cut : goal.returns-in_err-at-clause-cut
returns-in_err-at-clause-cut c =
    rw c.from_residual.ensures (uncut (λ b. b == c.args.byte) c.args.text.now (sym c.in_err-at.was ∙ c.place_of.ensures))

pub returns-clause-cut : goal.returns-clause-cut
returns-clause-cut c =
    let text = c.args.text.now in
    let at = c.in_ok-at.at in
    let h = is_cut (λ b. b == c.args.byte) text at c.in_ok-at.ensures in
    rw (take_all (length text - (at + 1)) (drop (at + 1) text) (omega (arith, length-drop (at + 1) text))) h.1
