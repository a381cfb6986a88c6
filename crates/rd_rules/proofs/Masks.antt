-- How many places are masked in what is agreed.
use Rattle.std.proofs.Common.{◌≡◌, ◌+◌, List, ◌++◌, map, drop, Option, Some, None, sym, ap, ◌∙◌, arith}
use Rattle.std.specs.Prelude.{is_some, sum_by}
use Rattle.std.proofs.lemmas.List.Sums.{sum_by-append}
use Rattle.rd_base.specs.declared.values.Side.{Side}
use Rattle.rd_base.specs.declared.values.Side.TheVariants.{Incoming, Outgoing}
use Rattle.rd_rules.specs.Exchange.{Rules, Ask, Exchange, Reading, released, out_list}
use Rattle.rd_rules.specs.Given.{ask_masked, replies_masked, masked_on}
use Rattle.rd_rules.specs.Step.{with_done, sent_before, masked_now}
use Rattle.rd_rules.proofs.Grows.{Grown}
use Rattle.rd_rules.proofs.GivenSteps.{out_first, released_done}

fresh_is : (out : Option Ask) (rest asks : List Ask) → out_list out ++ rest ≡ asks → drop (sent_before (is_some out)) asks ≡ rest
fresh_is None rest asks is = sym is
fresh_is (Some ask) rest asks is = ap (drop 1) (sym is)

pub masked_next : (r : Rules) (now next : Reading) → Grown now (with_done now.done next)
    → masked_on r.side r (with_done now.done next) ≡ masked_on r.side r now + masked_now r.side r (is_some now.out) next
masked_next r now next grown = by r.side
  where
    by : (side : Side) → masked_on side r (with_done now.done next) ≡ masked_on side r now + masked_now side r (is_some now.out) next
    by Incoming = sum_by-append (replies_masked r) now.done next.done
    by Outgoing =
        let f = ask_masked r in
        let asks = map (λ (x : Exchange). x.ask) now.done in
        let first = out_first now next grown in
        let all : sum_by f (asks ++ released next) ≡ sum_by f asks + sum_by f (released next) = sum_by-append f asks (released next) in
        let later : sum_by f (released next) ≡ sum_by f (out_list now.out) + sum_by f first.0 =
        ap (sum_by f) (sym first.1) ∙ sum_by-append f (out_list now.out) first.0 in
        let before : sum_by f (asks ++ out_list now.out) ≡ sum_by f asks + sum_by f (out_list now.out) = sum_by-append f asks (out_list now.out) in
        let fresh : sum_by f (drop (sent_before (is_some now.out)) (released next)) ≡ sum_by f first.0 = ap (sum_by f) (fresh_is now.out first.0 (released next) first.1) in
        ap (sum_by f) (released_done now.done next) ∙ omega (arith, all, later, before, fresh)
