use Rattle.std.proofs.Common.{◌≡◌, ◌∙◌, ◌+◌, ◌++◌, ◌∷◌, [], ap, ap₂, sym, drop, arith, append-nil}
use Rattle.std.proofs.lemmas.List.{drop_all, drop_more}
use Rattle.rd_core.specs.OwnLists.{OwnsSeen, last_own, owns_after}
use Rattle.rd_core.proofs.OwnAfter.{owns_after-more}
use Rattle.rd_core.proofs.own_lists.OwnLists.of.Goals as goal

pub loop-exchange-preserved : goal.loop-exchange-preserved
loop-exchange-preserved c =
    let done = c.args.done.now in
    let i = c.loop-exchange.exchange-index in
    let x = c.exchange-item.result in
    let seen = c.loop-exchange.lists in
    let split : drop i done ≡ x ∷ drop (i + 1) done = drop_more done i x (omega arith) ∙ ap (λ y. y ∷ drop (i + 1) done) (sym c.exchange-item.is) in
    record {
      own = ap (λ (n : OwnsSeen). n.own) c.in_ok-learn.ensures ∙ c.loop-exchange.invariant.own;
      after = owns_after-more seen c.learn.new.self x (drop (i + 1) done) c.in_ok-learn.ensures ∙ ap (λ xs. seen.after ++ owns_after (last_own seen) xs) (sym split) ∙ c.loop-exchange.invariant.after;
    }

pub returns : goal.returns
returns c =
    let seen = c.loop-exchange.lists in
    let none : drop c.loop-exchange.exchange-index c.args.done.now ≡ [] = drop_all c.loop-exchange.exchange-index c.args.done.now (omega arith) in
    let after : seen.after ≡ owns_after c.args.own.now c.args.done.now =
    sym (append-nil seen.after) ∙ ap (λ xs. seen.after ++ owns_after (last_own seen) xs) (sym none) ∙ c.loop-exchange.invariant.after in
    ap₂ (λ own after. record { own = own; after = after }) c.loop-exchange.invariant.own after
