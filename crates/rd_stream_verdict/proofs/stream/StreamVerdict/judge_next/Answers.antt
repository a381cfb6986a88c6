use Rattle.std.proofs.Common.{◌≤◌, length, refl, ap, sym, ◌∙◌, subst, arith}
use Rattle.rd_base.specs.Verdicts.{mask_of}
use Rattle.rd_stream_verdict.specs.Kept.{Kept, HasHeard}
use Rattle.rd_stream_verdict.specs.Heads.{heads_judged}
use Rattle.rd_stream_verdict.proofs.AllSame.{all_same, fed_of}
use Rattle.rd_stream_verdict.proofs.Asked.{IsAsked, same_by}
use Rattle.rd_stream_verdict.proofs.Steps.{reached_heard}
use Rattle.rd_stream_verdict.proofs.stream.StreamVerdict.judge_next.Goals as goal

pub invariant_of-self : goal.invariant_of-self
invariant_of-self c =
    let seen : Kept = record { most = c.self.inside.most; found = c.self.inside.found; rows = c.self.inside.rows; copies = c.self.inside.copies } in
    let new : Kept = record { most = c.self.inside.most; found = c.self.inside.found; rows = c.self.inside.rows; copies = c.count.new.self } in
    let asked = (subst (IsAsked c.args.at) (sym c.self.view_is) (record { there = c.requires.there; may = c.requires.open; agreed = c.requires.agreed; only = c.requires.only })) in
    let fed = fed_of c.args.at seen.copies asked.there in
    let two : 2 ≤ length seen.copies = omega (arith, c.self.invariant.three) in
    let judged = all_same seen.most fed.0 (length (mask_of seen.found)) c.args.token (length seen.copies) two in
    let same = sym (ap (heads_judged seen.most fed.0 (length (mask_of seen.found))) (c.are_same_with.ensures c.if-are_same_with.true) ∙ judged) in
    let heard : HasHeard c.args.at c.args.token seen new = same_by seen c.args.at fed.0 (length (mask_of seen.found)) c.args.token c.pass_all.new.self c.count.new.self asked fed.1 refl same c.pass_all.ensures c.count.ensures in
    reached_heard seen new c.args.at c.args.token heard c.self.invariant

pub returns-then-are_same_with-clause-ok : goal.returns-then-are_same_with-clause-ok
returns-then-are_same_with-clause-ok c =
    let seen : Kept = record { most = c.self.inside.most; found = c.self.inside.found; rows = c.self.inside.rows; copies = c.self.inside.copies } in
    let new : Kept = record { most = c.self.inside.most; found = c.self.inside.found; rows = c.self.inside.rows; copies = c.count.new.self } in
    let asked = (subst (IsAsked c.args.at) (sym c.self.view_is) (record { there = c.requires.there; may = c.requires.open; agreed = c.requires.agreed; only = c.requires.only })) in
    let fed = fed_of c.args.at seen.copies asked.there in
    let two : 2 ≤ length seen.copies = omega (arith, c.self.invariant.three) in
    let judged = all_same seen.most fed.0 (length (mask_of seen.found)) c.args.token (length seen.copies) two in
    let same = sym (ap (heads_judged seen.most fed.0 (length (mask_of seen.found))) (c.are_same_with.ensures c.if-are_same_with.true) ∙ judged) in
    let heard : HasHeard c.args.at c.args.token seen new = same_by seen c.args.at fed.0 (length (mask_of seen.found)) c.args.token c.pass_all.new.self c.count.new.self asked fed.1 refl same c.pass_all.ensures c.count.ensures in
    let P : Kept → Type 0 = λ old. HasHeard c.args.at c.args.token old new in
    subst P c.self.view_is heard
