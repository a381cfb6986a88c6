use Rattle.std.proofs.Common.{◌≡◌, ◌-◌, ◌∙◌, List, length, take, drop, ap, refl, arith, length-drop}
use Rattle.std.specs.Prelude.{slice_get}
use Rattle.std.specs.List.{list_all}
use Rattle.std.proofs.lemmas.List.{take_all}
use Rattle.std.proofs.lemmas.Option.{slice_get_read}
use Rattle.rd_base.specs.Token.{Token}
use Rattle.rd_base.specs.Verdicts.{same}
use Rattle.rd_verdict.proofs.Alike.{alike_all}
use Rattle.rd_verdict.proofs.judging.is_alike_at.Goals as goal

pub returns : goal.returns
returns c =
    let lists = c.args.lists.now in
    let first = slice_get_read lists _ 0 c.index-lists-0.result refl (omega arith) c.index-lists-0.is in
    let test = λ (ts : List (List Token)). list_all (λ tokens. same (slice_get tokens c.args.place) (slice_get c.index-lists-0.result c.args.place)) ts in
    let rest : take (length lists - 1) (drop 1 lists) ≡ drop 1 lists = take_all (length lists - 1) (drop 1 lists) (omega (arith, length-drop 1 lists)) in
    c.are_all_same.ensures ∙ ap test rest ∙ alike_all lists c.index-lists-0.result c.args.place first
