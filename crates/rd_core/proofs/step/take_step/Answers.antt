use Rattle.std.proofs.Common.{◌≡◌, ◌-◌, ◌+◌, max, ap, ap₂, sym, subst, ◌∙◌, arith, refl, [], List, Bool, ℕ, Option, Some, None}
use Rattle.std.specs.Prelude.{option_map}
use Rattle.rd_base.specs.Sent.{sends_to}
use Rattle.rd_base.specs.History.{Row, is_timer}
use Rattle.rd_base.specs.declared.values.Ending.{Ending}
use Rattle.rd_rules.specs.Exchange as rule
use Rattle.rd_rules.specs.Step.{given_now, grow_front_by}
use Rattle.rd_rules.specs.Wait.{Wait}
use Rattle.rd_rules.proofs.Outs.{ask_grows}
use Rattle.rd_rules.specs.Trouble.{Now, full_log_at, or_else, unsolicited_by}
use Rattle.rd_core.specs.Faults.{fault_by}
use Rattle.rd_reading.specs.Seen.{rules_of, seen_front, seen_request}
use Rattle.rd_reading.proofs.CutBack.{front_back}
use Rattle.rd_core.specs.Awaited.{began_since}
use Rattle.rd_core.specs.declared.clock.Clock.{Clock}
use Rattle.rd_core.specs.declared.stage.Stage.{Stage}
use Rattle.rd_core.specs.Kept.{IsKept}
use Rattle.rd_core.specs.Stages.{seen_stage}
use Rattle.rd_core.specs.Standing.{next_reading, late_at, wait_at}
use Rattle.rd_core.specs.Clocks.{standing, entry_of}
use Rattle.rd_core.specs.OwnLists.{latest_of}
use Rattle.rd_core.proofs.Moves.{moved, has_more, has_room_asking, units_after, is_out_after, is_some-map, kept_same, kept_over}
use Rattle.rd_core.proofs.step.take_step.Goals as goal

pub grow_front-requires-clause-asking : goal.grow_front-requires-clause-asking
grow_front-requires-clause-asking g c =
    has_room_asking c.args.setup.now c.args.stage.now c.args.clock.entries c.args.happening.now.what c.requires.kept.limits.most_unit c.requires.sized (c.requires.kept.more refl)

pub watch_again-renewed-requires : goal.watch_again-renewed-requires
watch_again-renewed-requires g c = record {
  before = c.args.stage.now;
  kept = c.requires.kept.seen;
  out = refl;
  left = c.in_ok-extents.ensures.ok;
}

pub go_on-requires-clause-out : goal.go_on-requires-clause-out
go_on-requires-clause-out g c = λ ask is.
    let grammar = g.D.Dialect.grammar c.args.dialect.now in
    let most = c.args.setup.now.limits.mask in
    let what = c.args.happening.now.what in
    ap (rule.ask_at grammar most) c.in_ok-extents.ensures.ok
    ∙ ask_grows grammar (g.met.D.Dialect.lawful c.args.dialect.now) most what (seen_front c.args.stage.now.left) ask (c.requires.kept.out ask is)

-- ---- a step that is withheld

pub returns-in-Some-clause-steps : goal.returns-in-Some-clause-steps
returns-in-Some-clause-steps g c =
    let grammar = g.D.Dialect.grammar c.args.dialect.now in
    let old = c.args.stage.now in
    let own = c.args.own.now in
    let now = seen_stage old own in
    let what = c.args.happening.now.what in
    let extents = c.in_ok-extents.extents in
    let grown : seen_front c.grow_front.new.front ≡ grow_front_by what (seen_front old.left) = c.in_ok-extents.ensures.ok in
    let u : unsolicited_by grammar now what ≡ Some c.in-Some.ending =
    sym (c.unsolicited.ensures now refl (c.as_slice.ensures.value ∙ ap (λ (f : rule.Front). f.answering) grown)) ∙ c.in-Some.is in
    let back : seen_front c.cut_front_back.new.front ≡ seen_front old.left =
    front_back what (seen_front old.left) (seen_front c.grow_front.new.front) (seen_front c.cut_front_back.new.front) extents.asking.items extents.answering.items
    grown c.in_ok-extents.ensures.asked c.in_ok-extents.ensures.answered c.cut_front_back.ensures.phase c.cut_front_back.ensures.asking c.cut_front_back.ensures.answering in
    record {
      on = λ none. absurd (cc (sym none ∙ u));
      held = λ x is. (
        ap₂ (λ (f : rule.Front) (rows : List Row). record now { left = f; own = rows }) back (ap (latest_of own) c.withheld.ensures.own),
        c.withheld.ensures.ending ∙ sym u ∙ is,
        c.withheld.ensures.sends,
      );
    }

pub returns-in-Some-clause-kept : goal.returns-in-Some-clause-kept
returns-in-Some-clause-kept g c =
    let grammar = g.D.Dialect.grammar c.args.dialect.now in
    let old = c.args.stage.now in
    let what = c.args.happening.now.what in
    let extents = c.in_ok-extents.extents in
    let back : seen_front c.cut_front_back.new.front ≡ seen_front old.left =
    front_back what (seen_front old.left) (seen_front c.grow_front.new.front) (seen_front c.cut_front_back.new.front) extents.asking.items extents.answering.items
    c.in_ok-extents.ensures.ok c.in_ok-extents.ensures.asked c.in_ok-extents.ensures.answered c.cut_front_back.ensures.phase c.cut_front_back.ensures.asking c.cut_front_back.ensures.answering in
    let over = kept_over grammar c.args.setup.now old c.args.watch.now c.args.clock.entries c.args.masked c.in-Some.ending c.requires.kept in
    let m = c.withheld.result in
    let stage : Stage = record { count = old.count; bye = old.bye; left = c.cut_front_back.new.front; out = old.out } in
    subst (λ (k : Clock). IsKept grammar c.args.setup.now stage c.args.watch.now k.entries m.masked m.ending) (sym c.withheld.ensures.clock)
    (subst (λ (n : ℕ). IsKept grammar c.args.setup.now stage c.args.watch.now c.args.clock.entries n m.ending) (sym c.withheld.ensures.masked)
    (subst (λ (e : Option Ending). IsKept grammar c.args.setup.now stage c.args.watch.now c.args.clock.entries c.args.masked e) (sym c.withheld.ensures.ending)
    (kept_same grammar c.args.setup.now old stage c.args.watch.now c.args.clock.entries c.args.masked (Some c.in-Some.ending) refl refl back over)))

-- ---- a step that goes on

pub returns-in-Ok-clause-steps : goal.returns-in-Ok-clause-steps
returns-in-Ok-clause-steps g c =
    let grammar = g.D.Dialect.grammar c.args.dialect.now in
    let rules = rules_of grammar c.args.setup.now in
    let limits = c.args.setup.now.limits in
    let old = c.args.stage.now in
    let own = c.args.own.now in
    let told = c.args.told.now in
    let e = entry_of c.args.happening.now told in
    let now = seen_stage old own in
    let stage = c.go_on.new.stage in
    let outcome = c.in-Ok.field-0 in
    let done = c.in-Ok.ensures in
    let grown : seen_front c.grow_front.new.front ≡ grow_front_by e.what (seen_front old.left) = c.in_ok-extents.ensures.ok in
    let next = rule.read grammar limits.mask (limits.exchanges_max - old.count) (seen_front c.grow_front.new.front) in
    let next_is : next ≡ next_reading rules now e = ap (rule.read grammar limits.mask (limits.exchanges_max - old.count)) grown in
    let u = c.unsolicited.ensures now refl (c.as_slice.ensures.value ∙ ap (λ (f : rule.Front). f.answering) grown) in
    let clock = c.clock_after-clock.result in
    let waited = ap (λ (w : Wait). began_since w (wait_at rules.side (seen_stage stage [])) c.args.clock.began (max c.args.clock.moment e.at)) c.awaited-before.ensures in
    record {
      on = λ none. record {
        at = moved rules old stage own (latest_of own outcome.own) c.args.clock clock e next next_is done.stage c.clock_after-clock.ensures.entries c.clock_after-clock.ensures.moment (c.clock_after-clock.ensures.began ∙ waited);
        ending = c.ending_of-ending.ensures
            ∙ ap (λ t. or_else (or_else (fault_by limits.copies e.what) (late_at c.args.setup.now.side limits (is_timer e.what) (standing stage [] clock))) (or_else t (full_log_at clock.entries))) done.trouble;
        sent = done.sends
            ∙ ap₂ (λ (b : Bool) (n : rule.Reading). sends_to (limits.copies + 1) (λ l. given_now rules l own told b n)) (sym (is_some-map seen_request old.out)) next_is;
      };
      held = λ x is. absurd (cc (sym c.in_default.is ∙ u ∙ is));
    }

pub returns-in-Ok-clause-kept : goal.returns-in-Ok-clause-kept
returns-in-Ok-clause-kept g c =
    let grammar = g.D.Dialect.grammar c.args.dialect.now in
    let rules = rules_of grammar c.args.setup.now in
    let limits = c.args.setup.now.limits in
    let what = c.args.happening.now.what in
    let old = c.args.stage.now in
    let stage = c.go_on.new.stage in
    let outcome = c.in-Ok.field-0 in
    let done = c.in-Ok.ensures in
    let clock = c.clock_after-clock.result in
    let more = c.requires.kept.more refl in
    let spare = limits.exchanges_max - old.count in
    let grown : seen_front c.grow_front.new.front ≡ grow_front_by what (seen_front old.left) = c.in_ok-extents.ensures.ok in
    let left : seen_front stage.left ≡ (rule.read grammar limits.mask spare (seen_front c.grow_front.new.front)).left = ap (λ (n : Now). n.left) done.stage in
    let out : option_map seen_request stage.out ≡ (rule.read grammar limits.mask spare (seen_front c.grow_front.new.front)).out = ap (λ (n : Now). n.out) done.stage in
    record {
      limits = c.requires.kept.limits;
      count = done.count;
      asked = done.asked;
      out = is_out_after grammar c.args.setup.now stage spare (seen_front c.grow_front.new.front) left out;
      seen = done.watch;
      masked = omega (arith, c.requires.kept.masked, done.few_masked, c.clock_after-clock.ensures.entries);
      more = λ none. has_more rules c.args.setup.now stage clock.entries
          (or_else (fault_by limits.copies what) (late_at c.args.setup.now.side limits (is_timer what) (standing stage [] clock)))
          outcome.trouble c.ending_of-ending.result refl refl
          (λ ask is. units_after grammar (g.met.D.Dialect.lawful c.args.dialect.now) c.args.setup.now old c.args.clock.entries what spare ask c.requires.sized more c.requires.kept.out
          (ap (λ f. (rule.read grammar limits.mask spare f).out) (sym grown) ∙ sym out ∙ is))
          done.trouble c.ending_of-ending.ensures (omega (arith, more.room, c.clock_after-clock.ensures.entries)) none;
    }

-- ---- want of memory

pub returns-in-Err-clause-kept_err : goal.returns-in-Err-clause-kept_err
returns-in-Err-clause-kept_err g c =
    let old = c.args.stage.now in
    let after = c.go_on.new.stage in
    let same = c.in-Err.ensures.err in
    let extents = c.in_ok-extents.extents in
    let grown : seen_front after.left ≡ grow_front_by c.args.happening.now.what (seen_front old.left) = ap (λ (s : Stage). seen_front s.left) same ∙ c.in_ok-extents.ensures.ok in
    let back : seen_front c.cut_front_back-in-Err.new.front ≡ seen_front old.left =
    front_back c.args.happening.now.what (seen_front old.left) (seen_front after.left) (seen_front c.cut_front_back-in-Err.new.front) extents.asking.items extents.answering.items
    grown c.in_ok-extents.ensures.asked c.in_ok-extents.ensures.answered c.cut_front_back-in-Err.ensures.phase c.cut_front_back-in-Err.ensures.asking c.cut_front_back-in-Err.ensures.answering in
    let stage : Stage = record { count = after.count; bye = after.bye; left = c.cut_front_back-in-Err.new.front; out = after.out } in
    kept_same (g.D.Dialect.grammar c.args.dialect.now) c.args.setup.now old stage c.args.watch.now c.args.clock.entries c.args.masked None
    (ap (λ (s : Stage). s.count) same) (ap (λ (s : Stage). s.out) same) back c.requires.kept

pub returns-in-Err-clause-err : goal.returns-in-Err-clause-err
returns-in-Err-clause-err g c = λ rows.
    let old = c.args.stage.now in
    let after = c.go_on.new.stage in
    let same = c.in-Err.ensures.err in
    let extents = c.in_ok-extents.extents in
    let grown : seen_front after.left ≡ grow_front_by c.args.happening.now.what (seen_front old.left) = ap (λ (s : Stage). seen_front s.left) same ∙ c.in_ok-extents.ensures.ok in
    let back : seen_front c.cut_front_back-in-Err.new.front ≡ seen_front old.left =
    front_back c.args.happening.now.what (seen_front old.left) (seen_front after.left) (seen_front c.cut_front_back-in-Err.new.front) extents.asking.items extents.answering.items
    grown c.in_ok-extents.ensures.asked c.in_ok-extents.ensures.answered c.cut_front_back-in-Err.ensures.phase c.cut_front_back-in-Err.ensures.asking c.cut_front_back-in-Err.ensures.answering in
    ap (λ (f : rule.Front). record { count = after.count; bye = after.bye; own = rows; left = f; out = option_map seen_request after.out }) back
    ∙ ap (λ (s : Stage). record { count = s.count; bye = s.bye; own = rows; left = seen_front old.left; out = option_map seen_request s.out }) same
