-- The stops and the stamps of a session that has run have their causes.
use Rattle.std.specs.Prelude.{◌≡◌, ℕ, ◌≤◌, ◌^◌, ◌-◌, ◌||◌, fold, true, List, [], ◌∷◌, ◌++◌, Some}
use Rattle.std.proofs.Common.{arith}
use Rattle.std.specs.List.{list_any}
use Rattle.std.proofs.Common.{refl, sym, ap, ◌∙◌, subst, append-nil}
use Rattle.std.proofs.lemmas.List.Folds.{list_any-append}
use Rattle.rd_base.specs.History.{History, Row, is_stop as stops}
use Rattle.rd_base.specs.Outside.{SinkTold}
use Rattle.rd_base.specs.declared.values.Ending.{Ending}
use Rattle.rd_base.specs.declared.values.Ending.TheVariants.{Stopped, NoMemory}
use Rattle.rd_rules.specs.Exchange.{Rules}
use Rattle.rd_rules.proofs.Endings.{only_stops}
use Rattle.rd_runner.specs.Counts.{RoseBy}
use Rattle.rd_turn.specs.declared.log.LogEntry.{LogEntry}
use Rattle.rd_turn.specs.declared.running.Over.{Over}
use Rattle.rd_turn.specs.Turns.{Turn, Outside, after_turn, history_of}
use Rattle.rd_turn.specs.Runs.{EndsBy}
use Rattle.rd_run.specs.Ran.{SessionRan, with_base, with_gate, over_by}
use Rattle.rd_run.specs.declared.session.Left.{Left}
use Rattle.rd_run_session.specs.Laws.{StopsAreCounted, StampsAreWithin, CountsStops, StampsWithin}
use Rattle.rd_run_session.proofs.Asked.{any_stop, asked_by, turns_say, spans_by, covers_base, history_within, last_within, within_front, each_entry}
use Rattle.rd_run_session.specs.Left.{last_stamp}
use Rattle.rd_gate.specs.Gate.{of}

told_to_stop : (r : Rules) (base : ℕ) (turns given_up : List Turn) (over : Over) → EndsBy r base (history_of base turns) given_up over → over.ending ≡ Stopped → any_stop (turns ++ given_up) ≡ true
told_to_stop r base turns [] over ends is =
    ap any_stop (append-nil turns) ∙ turns_say base turns (only_stops r (history_of base turns) (ends.0 ∙ ap Some is))
told_to_stop r base turns (t ∷ more) over ends is = absurd (cc (sym ends.0 ∙ is))

pub stops_are_counted : StopsAreCounted
stops_are_counted r before after entries told result olds news ran most =
    let h = ran.history in
    let start = with_base before ran.base in
    let all = h.turns ++ h.given_up in
    let asked = asked_by all start most in
    let same : (fold after_turn start all).stopper.yeses ≡ after.stopper.yeses = ap (λ (o : Outside). o.stopper.yeses) (sym h.asks) in
    record {
      stays = subst (λ n. before.stopper.yeses ≤ n) same asked.stays;
      most = subst (λ n. n ≤ 2 ^ 64 - 1) same asked.most;
      rose = λ is. subst (λ n. RoseBy 1 before.stopper.yeses n) same
          (asked.rose (told_to_stop r ran.base h.turns h.given_up (over_by result ran.back) h.truly.ends is));
    }

pub stamps_are_within : StampsAreWithin
stamps_are_within r before after entries told result olds news ran =
    let h = ran.history in
    let start = with_base before ran.base in
    let all = h.turns ++ h.given_up in
    let spans = spans_by ran.base all start (covers_base ran.base before.clock.reach) in
    let same : (fold after_turn start all).clock.span ≡ after.clock.span = ap (λ (o : Outside). o.clock.span) (sym h.asks) in
    record {
      stays = subst (λ n. before.clock.span ≤ n) same (omega (arith, spans.stays));
      last = subst (λ n. last_stamp entries ≤ n) same (last_within _ entries (λ l. of l after.gate.taken) told
          (subst (each_entry _) (sym h.is) (history_within ran.base _ h.turns (within_front ran.base _ h.turns h.given_up spans.within))));
    }
