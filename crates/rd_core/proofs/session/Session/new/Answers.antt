use Rattle.std.proofs.Common.{◌≡◌, ◌+◌, ◌-◌, ap, ap₂, sym, ◌∙◌, arith, refl, false, [], None, ℕ}
use Rattle.std.specs.Prelude.{option_map}
use Rattle.rd_rules.specs.Exchange as rule
use Rattle.rd_rules.specs.Trouble.{Now}
use Rattle.rd_rules.specs.Step.{masked_now}
use Rattle.rd_rules.proofs.Outs.{short_out}
use Rattle.rd_reading.specs.Seen.{rules_of, seen_front, seen_request}
use Rattle.rd_core.specs.Stages.{seen_stage}
use Rattle.rd_core.specs.Standing.{now_from}
use Rattle.rd_core.specs.Clocks.{standing}
use Rattle.rd_core.proofs.Moves.{first_stage, has_more, is_out_after, start_fits, masked_first, or_none}
use Rattle.rd_core.proofs.Taken.{start_at}
use Rattle.rd_core.proofs.session.Session.new.Goals as goal

pub go_on-requires-clause-out : goal.go_on-requires-clause-out
go_on-requires-clause-out g c = λ ask is. absurd (cc is)

pub invariant_of-result : goal.invariant_of-result
invariant_of-result g c =
    let grammar = g.D.Dialect.grammar c.args.dialect in
    let rules = rules_of grammar c.args.setup in
    let limits = c.args.setup.limits in
    let outcome = c.in_ok-outcome.outcome in
    let stage = c.go_on.new.stage in
    let spare = limits.exchanges_max - 0 in
    let left : seen_front stage.left ≡ (rule.read grammar limits.mask spare (seen_front c.in_ok-front.front)).left = ap (λ (n : Now). n.left) c.in_ok-outcome.ensures.stage in
    let out : option_map seen_request stage.out ≡ (rule.read grammar limits.mask spare (seen_front c.in_ok-front.front)).out = ap (λ (n : Now). n.out) c.in_ok-outcome.ensures.stage in
    record {
      limits = c.requires.limits;
      count = c.in_ok-outcome.ensures.count;
      asked = c.in_ok-outcome.ensures.asked;
      out = is_out_after grammar c.args.setup stage spare (seen_front c.in_ok-front.front) left out;
      seen = c.in_ok-outcome.ensures.watch;
      masked = omega (arith, c.in_ok-outcome.ensures.few_masked);
      more = λ none. has_more rules c.args.setup stage 0 None outcome.trouble outcome.trouble refl refl
          (λ ask is. short_out grammar limits.mask (limits.unit_max + 16384) spare (rule.start_front rules []) ask (start_fits rules (limits.unit_max + 16384))
          (ap (λ f. (rule.read grammar limits.mask spare f).out) (sym c.in_ok-front.ensures) ∙ sym out ∙ is))
          c.in_ok-outcome.ensures.trouble (sym (or_none outcome.trouble)) (omega arith) none;
    }

pub returns-clause-at : goal.returns-clause-at
returns-clause-at g c =
    let grammar = g.D.Dialect.grammar c.args.dialect in
    let rules = rules_of grammar c.args.setup in
    let most = c.args.setup.limits in
    let outcome = c.in_ok-outcome.outcome in
    let stage = c.go_on.new.stage in
    let none : most.exchanges_max - 0 ≡ most.exchanges_max = omega arith in
    start_at rules (record { dialect = c.args.dialect; setup = c.args.setup; at = standing stage c.unwrap_or.result (record { entries = 0; moment = 0; began = 0 }); tally = record { masked = outcome.masked; rows = c.new.result }; ending = outcome.trouble })
    (ap (seen_stage stage) c.unwrap_or.ensures
    ∙ c.in_ok-outcome.ensures.stage
    ∙ ap₂ (λ o f. now_from rules 0 false o (rule.read grammar most.mask f (seen_front c.in_ok-front.front))) c.new-own.ensures none
    ∙ ap (λ f. now_from rules 0 false [] (rule.read grammar most.mask most.exchanges_max f)) c.in_ok-front.ensures
    ∙ first_stage rules (rule.reading rules []))
    refl refl refl
    (c.in_ok-outcome.ensures.masked ∙ ap₂ (λ (n : ℕ) (f : rule.Front). masked_now c.args.setup.side rules false (rule.read grammar most.mask n f)) none c.in_ok-front.ensures ∙ masked_first c.args.setup.side rules (rule.reading rules []))
    c.new.ensures c.in_ok-outcome.ensures.trouble
