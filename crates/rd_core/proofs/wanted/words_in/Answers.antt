use Rattle.std.proofs.Common.{◌≡◌, ◌+◌, Option, List, [], ◌∷◌, ap, ap₂, sym, subst, ◌∙◌, arith, map, length, get_or}
use Rattle.std.specs.Prelude.{take, drop, fold, option_map}
use Rattle.std.specs.List.{flat_map}
use Rattle.std.proofs.lemmas.List.{drop_all, drop_more}
use Rattle.rd_base.specs.History.{Row}
use Rattle.rd_rules.specs.Given.{Release, releases, learnt, exchange_rows}
use Rattle.rd_rules.specs.Step.{sent_before}
use Rattle.rd_rules.specs.Wanted.{add_word, unknown_words}
use Rattle.rd_reading.specs.declared.exchange.DoneExchange.{DoneExchange}
use Rattle.rd_reading.specs.declared.exchange.Request.{Request}
use Rattle.rd_reading.specs.Seen.{seen_request, seen_exchange, rules_of, rows_are}
use Rattle.rd_core.specs.OwnLists.{latest_of}
use Rattle.rd_core.proofs.Asked.{words_step, no_words, length-taken}
use Rattle.rd_core.proofs.wanted.words_in.Goals as goal

pub loop-exchange-preserved : goal.loop-exchange-preserved
loop-exchange-preserved g c =
    let rules = rules_of (g.D.Dialect.grammar c.args.dialect.now) c.args.setup.now in
    let f = unknown_words rules in
    let out = option_map seen_request c.args.reading.now.out in
    let done = c.args.reading.now.done.items in
    let i = c.loop-exchange.exchange-index in
    let x = c.exchange-item.result in
    let before = latest_of c.args.own.now c.loop-exchange.later in
    let own = latest_of c.args.own.now c.in_ok-later.later in
    let split : drop i done ≡ x ∷ drop (i + 1) done =
    drop_more done i x (omega (arith, c.loop-exchange-test.true, ap length c.as_slice-exchange-items.ensures.value)) ∙ ap (λ y. y ∷ drop (i + 1) done) (ap (λ xs. get_or xs i x) (sym c.as_slice-exchange-items.ensures.value) ∙ sym c.exchange-item.is) in
    let both : rows_are rules (x ∷ drop (i + 1) done) = subst (rows_are rules) split c.loop-exchange.invariant.rows in
    let here : x.replies.rows ≡ exchange_rows rules (seen_exchange x) = cc both in
    let rest : rows_are rules (drop (i + 1) done) = ap (drop 1) both in
    let learns : own ≡ learnt before (exchange_rows rules (seen_exchange x)) =
    c.in_ok-later.ensures ∙ ap (learnt before) here in
    let rel : Release = record { ask = seen_request x.request; own = before } in
    let added : c.push_fresh.new.words ≡ take 4096 (fold add_word c.loop-exchange.words (flat_map f (drop (sent_before c.loop-exchange.skips) (rel ∷ [])))) =
    c.in_ok-push_fresh.ensures ∙ ap (λ (o : List Row). take 4096 (fold add_word c.loop-exchange.words (flat_map f (drop (sent_before c.loop-exchange.skips) (record { ask = seen_request x.request; own = o } ∷ []))))) (c.rows-rows.ensures.rows ∙ c.latest.ensures) in
    let rels = releases rules own (map seen_exchange (drop (i + 1) done)) out in
    record {
      words = ap (λ ws. take 4096 (fold add_word ws (flat_map f rels))) added
          ∙ words_step 4096 f c.loop-exchange.skips c.loop-exchange.words rel rels
          ∙ ap (λ (o : List Row). take 4096 (fold add_word c.loop-exchange.words (flat_map f (drop (sent_before c.loop-exchange.skips) (rel ∷ releases rules o (map seen_exchange (drop (i + 1) done)) out))))) learns
          ∙ ap (λ (xs : List DoneExchange). take 4096 (fold add_word c.loop-exchange.words (flat_map f (drop (sent_before c.loop-exchange.skips) (releases rules before (map seen_exchange xs) out))))) (sym split)
          ∙ c.loop-exchange.invariant.words;
      most = length-taken 4096 c.push_fresh.new.words (fold add_word c.loop-exchange.words (flat_map f (drop (sent_before c.loop-exchange.skips) (rel ∷ [])))) added;
      rows = rest;
    }

pub returns : goal.returns
returns g c =
    let rules = rules_of (g.D.Dialect.grammar c.args.dialect.now) c.args.setup.now in
    let f = unknown_words rules in
    let done = c.args.reading.now.done.items in
    let own = latest_of c.args.own.now c.loop-exchange.later in
    let none : drop c.loop-exchange.exchange-index done ≡ [] =
    drop_all c.loop-exchange.exchange-index done (omega (arith, c.loop-exchange-test.false, ap length c.as_slice-exchange-items.ensures.value)) in
    c.in_ok-push_fresh-2.ensures
    ∙ ap (λ (o : List Row). take 4096 (fold add_word c.loop-exchange.words (flat_map f (drop (sent_before c.loop-exchange.skips) (record { ask = seen_request c.in-Some.request; own = o } ∷ []))))) (c.rows-rows-2.ensures.rows ∙ c.latest-2.ensures)
    ∙ ap₂ (λ (xs : List DoneExchange) (out : Option Request). take 4096 (fold add_word c.loop-exchange.words (flat_map f (drop (sent_before c.loop-exchange.skips) (releases rules own (map seen_exchange xs) (option_map seen_request out)))))) (sym none) (sym c.in-Some.is)
    ∙ c.loop-exchange.invariant.words

pub returns-in_default : goal.returns-in_default
returns-in_default g c =
    let rules = rules_of (g.D.Dialect.grammar c.args.dialect.now) c.args.setup.now in
    let f = unknown_words rules in
    let done = c.args.reading.now.done.items in
    let own = latest_of c.args.own.now c.loop-exchange.later in
    let none : drop c.loop-exchange.exchange-index done ≡ [] =
    drop_all c.loop-exchange.exchange-index done (omega (arith, c.loop-exchange-test.false, ap length c.as_slice-exchange-items.ensures.value)) in
    sym (no_words 4096 f c.loop-exchange.skips c.loop-exchange.words c.loop-exchange.invariant.most)
    ∙ ap₂ (λ (xs : List DoneExchange) (out : Option Request). take 4096 (fold add_word c.loop-exchange.words (flat_map f (drop (sent_before c.loop-exchange.skips) (releases rules own (map seen_exchange xs) (option_map seen_request out)))))) (sym none) (sym c.in_default.is)
    ∙ c.loop-exchange.invariant.words
