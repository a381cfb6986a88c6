use Rattle.std.proofs.Common.{◌≡◌, ◌<◌, ◌+◌, ◌++◌, ◌∷◌, ℕ, Bool, false, List, map, drop, length, get_or, ap, ap₂, sym, subst, ◌∙◌, arith, append_assoc}
use Rattle.std.specs.Prelude.{option_map}
use Rattle.std.specs.List.{flat_map}
use Rattle.std.proofs.lemmas.List.{drop_more}
use Rattle.rd_base.specs.History.{Row}
use Rattle.rd_rules.specs.Given.{Release, forwarded, releases, learnt, exchange_rows}
use Rattle.rd_rules.specs.Step.{sent_before}
use Rattle.rd_reading.specs.declared.exchange.DoneExchange.{DoneExchange}
use Rattle.rd_reading.specs.Seen.{seen_request, seen_exchange, rules_of, rows_are}
use Rattle.rd_core.specs.OwnLists.{own_at}
use Rattle.rd_core.proofs.OwnAfter.{own_at-next, length-owns_after}
use Rattle.rd_core.proofs.sending.requests_for.Goals as goal
use Rattle.rd_core.proofs.sending.requests_for.Goals.{then-not-skips+in_ok-sent+in_ok-push_slice, else-not-skips}

pub at-rows-requires : goal.at-rows-requires
at-rows-requires g c =
    let items = c.args.reading.now.done.items in
    omega (arith, c.loop-place-test.true, ap length c.requires.lists, length-owns_after c.args.lists.now.own items, ap length c.as_slice-done.ensures.value)

pub at-rows-requires-then-not-skips-2 : goal.at-rows-requires-then-not-skips-2
at-rows-requires-then-not-skips-2 g c =
    let items = c.args.reading.now.done.items in
    omega (arith, ap length c.requires.lists, length-owns_after c.args.lists.now.own items, ap length c.as_slice-done.ensures.value)

pub loop-place-preserved : goal.loop-place-preserved
loop-place-preserved g c =
    let rules = rules_of (g.D.Dialect.grammar c.args.dialect.now) c.args.setup.now in
    let f = forwarded rules c.args.link c.args.told.now in
    let out = option_map seen_request c.args.reading.now.out in
    let done = c.args.reading.now.done.items in
    let i = c.loop-place.place in
    let x = c.index-done-place.result in
    let lists = c.args.lists.now in
    let before = own_at lists.own lists.after i in
    let own = own_at lists.own lists.after (i + 1) in
    let lt : i < length done = omega (arith, c.loop-place-test.true, ap length c.as_slice-done.ensures.value) in
    let item : x ≡ get_or done i x = c.index-done-place.is ∙ ap (λ xs. get_or xs i x) c.as_slice-done.ensures.value in
    let split : drop i done ≡ x ∷ drop (i + 1) done = drop_more done i x lt ∙ ap (λ y. y ∷ drop (i + 1) done) (sym item) in
    let both : rows_are rules (x ∷ drop (i + 1) done) = subst (rows_are rules) split c.loop-place.invariant.rows in
    let here : x.replies.rows ≡ exchange_rows rules (seen_exchange x) = cc both in
    let rest : rows_are rules (drop (i + 1) done) = ap (drop 1) both in
    let learns : own ≡ learnt before (exchange_rows rules (seen_exchange x)) =
    own_at-next lists.own lists.after done i x c.requires.lists lt ∙ ap (λ (y : DoneExchange). learnt before y.replies.rows) (sym item) ∙ ap (learnt before) here in
    let rel : Release = record { ask = seen_request x.request; own = before } in
    let rels : List Row → List Release = λ o. releases rules o (map seen_exchange (drop (i + 1) done)) out in
    let now : c.loop-place.bytes ++ flat_map f (drop (sent_before c.loop-place.skips) (rel ∷ rels own)) ≡ _ =
    ap (λ (o : List Row). c.loop-place.bytes ++ flat_map f (drop (sent_before c.loop-place.skips) (rel ∷ rels o))) learns
    ∙ ap (λ (xs : List DoneExchange). c.loop-place.bytes ++ flat_map f (drop (sent_before c.loop-place.skips) (releases rules before (map seen_exchange xs) out))) (sym split)
    ∙ c.loop-place.invariant.sent in
    let G : List ℕ → Bool → List ℕ = λ bytes skips. bytes ++ flat_map f (drop (sent_before skips) (rels own)) in
    let H : Bool → List ℕ = λ skips. c.loop-place.bytes ++ flat_map f (drop (sent_before skips) (rel ∷ rels own)) in
    record {
      sent = elim c.if-not-skips.branch [
        | then-not-skips+in_ok-sent+in_ok-push_slice w ↦ ap₂ G w.bytes-is w.skips-is
            ∙ ap (λ bytes. G bytes false) (w.in_ok-push_slice.ensures.ok
            ∙ ap (λ sent. c.loop-place.bytes ++ sent) (w.as_slice.ensures ∙ w.in_ok-sent.ensures ∙ ap (λ (o : List Row). f (record { ask = seen_request x.request; own = o })) w.at-rows.ensures))
            ∙ append_assoc c.loop-place.bytes (f rel) (flat_map f (rels own))
            ∙ ap H (sym w.if-not-skips.true)
            ∙ now
        | else-not-skips w ↦ ap₂ G w.bytes-is w.skips-is ∙ ap H (sym w.if-not-skips.false) ∙ now
      ];
      rows = rest;
    }
