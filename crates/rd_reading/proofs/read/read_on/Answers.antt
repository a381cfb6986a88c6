use Rattle.std.proofs.Common.{ap, sym, subst, ◌∙◌, ◌≡◌, ◌++◌, ◌∷◌, [], Some, None, Option, List, ◌-◌, map, arith, length, append-nil}
use Rattle.std.specs.Prelude.{option_map, IfSome}
use Rattle.std.proofs.lemmas.List.{length_push}
use Rattle.std.proofs.lemmas.List.Elements.{All-push, All-same}
use Rattle.rd_rules.specs.Exchange as rule
use Rattle.rd_rules.specs.Exchange.{read, ask_at, replies_at}
use Rattle.rd_rules.specs.Given.{exchange_rows, replies_masked}
use Rattle.rd_rules.specs.Step.{with_done}
use Rattle.rd_reading.specs.declared.exchange.DoneExchange.{DoneExchange}
use Rattle.rd_reading.specs.declared.exchange.Request.{Request}
use Rattle.rd_reading.specs.declared.exchange.Replies.{Replies}
use Rattle.rd_reading.specs.Whole.{IsAsked, IsAnswered, IsDone}
use Rattle.rd_reading.specs.Seen.{seen_request, seen_exchange, seen_front, latest_front, rules_of, IsMasked, AreMasked}
use Rattle.rd_reading.proofs.ReadSteps.{read_out, read_none, read_more, done_more, rows_more}
use Rattle.rd_reading.proofs.read.read_on.Goals as goal

pub returns-in_default-clause-reads : goal.returns-in_default-clause-reads
returns-in_default-clause-reads g c =
    let grammar = g.D.Dialect.grammar c.args.dialect.now in
    let most = c.args.setup.now.limits.mask in
    let left = seen_front (latest_front c.args.front.now c.loop-more.left) in
    let now : seen_front c.latest-now.result.now ≡ left = ap seen_front c.latest-now.ensures in
    let none : ask_at grammar most left ≡ None = ap (ask_at grammar most) (sym now) ∙ sym c.in_ok-request.ensures.asks ∙ ap (option_map seen_request) c.in_default.is in
    sym (c.loop-more.invariant.reads ∙ ap (with_done (map seen_exchange c.loop-more.done.items)) (read_none grammar most left c.loop-more.more none)
    ∙ ap (λ (xs : List rule.Exchange). record { done = xs; left = left; out = None }) (append-nil (map seen_exchange c.loop-more.done.items)))

pub returns-in_default-2-clause-reads : goal.returns-in_default-2-clause-reads
returns-in_default-2-clause-reads g c =
    let grammar = g.D.Dialect.grammar c.args.dialect.now in
    let most = c.args.setup.now.limits.mask in
    let left = seen_front (latest_front c.args.front.now c.loop-more.left) in
    let now : seen_front c.latest-now.result.now ≡ left = ap seen_front c.latest-now.ensures in
    let ask = seen_request c.in-Some.request in
    let asks : ask_at grammar most left ≡ Some ask = ap (ask_at grammar most) (sym now) ∙ sym c.in_ok-request.ensures.asks ∙ ap (option_map seen_request) c.in-Some.is in
    let none : replies_at grammar most left ask ≡ None =
    ap (λ f. replies_at grammar most f ask) (sym now) ∙ sym c.in_ok-replies.ensures.replies ∙ ap (option_map (λ (r : Replies). r.units.items)) c.in_default-2.is in
    sym (c.loop-more.invariant.reads ∙ ap (with_done (map seen_exchange c.loop-more.done.items)) (read_out grammar most left ask asks c.loop-more.more (omega arith) none)
    ∙ ap (λ (xs : List rule.Exchange). record { done = xs; left = left; out = Some ask }) (append-nil (map seen_exchange c.loop-more.done.items)))

pub after_exchange-requires : goal.after_exchange-requires
after_exchange-requires g c =
    let grammar = g.D.Dialect.grammar c.args.dialect.now in
    let ask = seen_request c.in-Some.request in
    record {
      asked = subst (λ (o : Option Request). IfSome o (λ r. IsAsked grammar (seen_request r))) c.in-Some.is c.in_ok-request.ensures.whole;
      answered = subst (λ (o : Option Replies). IfSome o (λ r. IsAnswered grammar ask r.units.items)) c.in-Some-2.is c.in_ok-replies.ensures.whole;
    }

pub loop-more-preserved : goal.loop-more-preserved
loop-more-preserved g c =
    let grammar = g.D.Dialect.grammar c.args.dialect.now in
    let rules = rules_of grammar c.args.setup.now in
    let most = c.args.setup.now.limits.mask in
    let left = seen_front c.latest-now.result.now in
    let ask = seen_request c.in-Some.request in
    let done = c.loop-more.done.items in
    let made = c.push_exchange.new.done.items in
    let x : DoneExchange = record { request = c.in-Some.request; replies = c.in-Some-2.replies } in
    let asks : ask_at grammar most left ≡ Some ask = sym c.in_ok-request.ensures.asks ∙ ap (option_map seen_request) c.in-Some.is in
    let replies : replies_at grammar most left ask ≡ Some c.in-Some-2.replies.units.items = sym c.in_ok-replies.ensures.replies ∙ ap (option_map (λ (r : Replies). r.units.items)) c.in-Some-2.is in
    let is : made ≡ done ++ x ∷ [] = c.in_ok-push_exchange.ensures in
    let whole : IsDone grammar (seen_exchange x) = record {
      asked = subst (λ (o : Option Request). IfSome o (λ r. IsAsked grammar (seen_request r))) c.in-Some.is c.in_ok-request.ensures.whole;
      answered = subst (λ (o : Option Replies). IfSome o (λ r. IsAnswered grammar ask r.units.items)) c.in-Some-2.is c.in_ok-replies.ensures.whole;
    } in
    let rows = subst (λ (o : Option Replies). IfSome o (λ r. r.rows ≡ exchange_rows rules (record { ask = ask; replies = r.units.items }))) c.in-Some-2.is c.in_ok-replies.ensures.rows in
    let asked_masked = subst (λ (o : Option Request). IfSome o (IsMasked rules)) c.in-Some.is c.in_ok-request.ensures.masked in
    let answered_masked = subst (λ (o : Option Replies). IfSome o (λ r. r.masked ≡ replies_masked rules (record { ask = ask; replies = r.units.items }))) c.in-Some-2.is c.in_ok-replies.ensures.masked in
    record {
      reads = c.loop-more.invariant.reads
          ∙ ap (λ f. with_done (map seen_exchange done) (read grammar most c.loop-more.more (seen_front f))) (sym c.latest-now.ensures)
          ∙ ap (with_done (map seen_exchange done)) (read_more grammar most left ask asks c.loop-more.more c.in-Some-2.replies.units.items (omega arith) replies)
          ∙ done_more done made x (read grammar most (c.loop-more.more - 1) (rule.after grammar left (seen_exchange x))) is
          ∙ ap (λ (f : rule.Front). with_done (map seen_exchange made) (read grammar most (c.loop-more.more - 1) f)) (sym c.in_ok-next.ensures);
      spare = omega (arith, ap length is, length_push done x, c.loop-more.invariant.spare);
      done = All-same (λ (x : DoneExchange). IsDone grammar (seen_exchange x)) made (done ++ x ∷ []) is (All-push (λ (x : DoneExchange). IsDone grammar (seen_exchange x)) done x c.loop-more.invariant.done whole);
      masked = All-same (AreMasked rules) made (done ++ x ∷ []) is (All-push (AreMasked rules) done x c.loop-more.invariant.masked (record { asked = asked_masked; answered = answered_masked }));
      rows = rows_more rules done made x is c.loop-more.invariant.rows rows;
    }
