use Rattle.std.proofs.Common.{◌≡◌, length, take, sym, ap, ◌∙◌, subst, refl, arith}
use Rattle.std.proofs.lemmas.List.{take_all}
use Rattle.rd_base.specs.History.{History}
use Rattle.rd_base.specs.Words.{below}
use Rattle.rd_reading.specs.Seen.{rules_of}
use Rattle.rd_core.specs.Standing.{IsAt}
use Rattle.rd_rules.specs.Exchange.{Rules}
use Rattle.rd_rules.specs.Sent.{exchanges, masked, final}
use Rattle.rd_session_run.specs.Counting.{AreCounts}
use Rattle.rd_session_run.specs.Summaries.{summary}
use Rattle.rd_session_run.proofs.Events.{none_taken}
use Rattle.rd_session_run.proofs.Ruled.{made_rules}
use Rattle.rd_rules.proofs.Silence.{nothing_sent, nothing_sent_to}
use Rattle.rd_session_run.proofs.summary.summarize.Goals as goal

pub loop-place-init : goal.loop-place-init
loop-place-init g c =
    let limits = c.args.limits in
    let r : Rules = record { side = c.args.side; grammar = g.D.Dialect.grammar c.args.dialect; limits = limits } in
    let laws = g.met.D.Dialect.lawful c.args.dialect in
    record {
      dialect = c.in_ok-session.ensures.dialect;
      setup = c.in_ok-session.ensures.setup;
      at = c.in_ok-session.ensures.at;
      counts = record {
        events = sym (none_taken r);
        to_client = sym (ap length (nothing_sent r laws (omega arith) limits.copies));
        to_instances = sym (nothing_sent_to r laws (omega arith) (below limits.copies));
      };
      small = record { events = omega arith; to_client = omega arith; to_instances = omega arith };
    }

pub count_step-requires-clause-counts : goal.count_step-requires-clause-counts
count_step-requires-clause-counts g c =
    let session = c.loop-place.session in
    let same = made_rules g.D.Dialect.grammar session c.args.dialect (record { side = c.args.side; limits = c.args.limits }) c.loop-place.invariant.dialect c.loop-place.invariant.setup in
    subst (λ (q : Rules). AreCounts q (take c.loop-place.place c.args.script.now.entries) c.loop-place.counts) (sym same) c.loop-place.invariant.counts

pub returns : goal.returns
unfolding summary
returns g c =
    let r : Rules = record { side = c.args.side; grammar = g.D.Dialect.grammar c.args.dialect; limits = c.args.limits } in
    let h : History = c.args.script.now.entries in
    let session = c.loop-place.session in
    let all : take c.loop-place.place h ≡ h = take_all c.loop-place.place h (omega arith) in
    let same : rules_of (g.D.Dialect.grammar session.dialect) session.setup ≡ r = made_rules g.D.Dialect.grammar session c.args.dialect (record { side = c.args.side; limits = c.args.limits }) c.loop-place.invariant.dialect c.loop-place.invariant.setup in
    let here = subst (λ (k : History). IsAt r session k) all c.loop-place.invariant.at in
    let at = subst (λ (q : Rules). IsAt q session h) (sym same) here in
    let counts = subst (λ (k : History). AreCounts r k c.loop-place.counts) all c.loop-place.invariant.counts in
    let agreed : c.exchanges.result ≡ exchanges r h = c.exchanges.ensures h at ∙ ap (λ (q : Rules). exchanges q h) same in
    let noise : c.masked.result ≡ masked r h = c.masked.ensures h at ∙ ap (λ (q : Rules). masked q h) same in
    let ending : c.ending.result ≡ final r h = c.ending.ensures.ending h at ∙ ap (λ (q : Rules). final q h) same in
    rw (agreed, counts.events, counts.to_client, counts.to_instances, noise, ending) refl
