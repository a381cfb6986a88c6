use Rattle.std.proofs.Common.{◌≡◌, ◌-◌, List, map, Bool, subst, ap, ap₂, sym, refl, ◌∙◌}
use Rattle.std.specs.List.{All, flat_map}
use Rattle.rd_reading.specs.Whole.{IsDone}
use Rattle.rd_rules.specs.Exchange as rule
use Rattle.rd_reading.specs.declared.exchange.DoneExchange.{DoneExchange}
use Rattle.rd_reading.specs.Seen.{rules_of, seen_exchange, latest_front}
use Rattle.rd_rules.specs.Given.{exchange_rows}
use Rattle.rd_rules.specs.Step.{masked_now}
use Rattle.rd_rules.specs.Given.{learnt}
use Rattle.rd_rules.specs.Trouble.{ends_by}
use Rattle.rd_core.specs.declared.stage.Next.{Next}
use Rattle.rd_core.specs.Stages.{seen_next, read_now}
use Rattle.rd_core.specs.OwnLists.{OwnsSeen, latest_of, last_own, owns_after}
use Rattle.rd_core.proofs.OwnAfter.{own_at-last}
use Rattle.rd_core.proofs.Planned.{stage_is, rows_of}
use Rattle.rd_core.proofs.plan.plan_of.Goals as goal

pub ends_in_farewell-bye-requires : goal.ends_in_farewell-bye-requires
ends_in_farewell-bye-requires g c =
    subst (λ (xs : List DoneExchange). All (λ x. IsDone (g.D.Dialect.grammar c.args.dialect.now) (seen_exchange x)) xs) (sym c.as_slice-done.ensures.value) c.in_ok-reading.ensures.done

pub returns-clause-next : goal.returns-clause-next
returns-clause-next g c =
    let grammar = g.D.Dialect.grammar c.args.dialect.now in
    let rules = rules_of grammar c.args.setup.now in
    let stage = c.args.stage.now in
    let own = c.args.own.now in
    let done = c.as_slice-done.result.now in
    let later = c.take_last-later.result in
    let lists_is = c.in_ok-lists.ensures in
    let latest : latest_of own later ≡ learnt own c.in_ok-rows.rows =
    ap (λ (o : OwnsSeen). latest_of o.own later) (sym lists_is)
    ∙ c.take_last-later.ensures
    ∙ ap last_own lists_is
    ∙ own_at-last own (owns_after own done) done refl
    ∙ ap (learnt own) (sym c.in_ok-rows.ensures) in
    let reading = c.in_ok-reading.reading in
    let next : Next = record { count = c.args.setup.now.limits.exchanges_max - reading.spare; bye = c.ends_in_farewell-bye.result; left = reading.left; out = reading.out } in
    let bye = c.ends_in_farewell-bye.ensures ∙ ap (λ xs. ends_by grammar stage.bye (map seen_exchange xs)) c.as_slice-done.ensures.value in
    let left : latest_front stage.left reading.left ≡ latest_front reading.from.now reading.left = ap (λ f. latest_front f reading.left) (sym c.in_ok-reading.ensures.from) in
    ap (seen_next stage.left next) latest
    ∙ stage_is rules stage.count stage.bye own c.in_ok-rows.rows reading stage.left next (read_now rules stage)
    c.in_ok-reading.ensures.reads c.in_ok-reading.ensures.spare c.requires.count refl bye left refl
    (c.in_ok-rows.ensures ∙ ap (flat_map (λ (x : DoneExchange). x.replies.rows)) c.as_slice-done.ensures.value) c.in_ok-reading.ensures.rows

pub returns-clause-rows : goal.returns-clause-rows
returns-clause-rows g c =
    let rules = rules_of (g.D.Dialect.grammar c.args.dialect.now) c.args.setup.now in
    c.in_ok-rows.ensures
    ∙ ap (flat_map (λ (x : DoneExchange). x.replies.rows)) c.as_slice-done.ensures.value
    ∙ rows_of rules c.in_ok-reading.reading.done.items c.in_ok-reading.ensures.rows
    ∙ ap (λ (n : rule.Reading). flat_map (exchange_rows rules) n.done) c.in_ok-reading.ensures.reads

pub returns-clause-masked : goal.returns-clause-masked
returns-clause-masked g c =
    let rules = rules_of (g.D.Dialect.grammar c.args.dialect.now) c.args.setup.now in
    c.masked_in-masked.ensures.is rules c.in_ok-reading.ensures.masked c.in_ok-reading.ensures.out_masked
    ∙ ap₂ (λ (b : Bool) n. masked_now c.args.setup.now.side rules b n) c.is_some-was_out.ensures c.in_ok-reading.ensures.reads
