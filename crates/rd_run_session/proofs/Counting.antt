-- What the run of a session does to counts, however it ended.
use Rattle.std.specs.Prelude.{◌≡◌, ℕ, ◌+◌, ◌-◌, ◌^◌, ◌≤◌, ◌<◌, ◌⊎◌, min, List, [], ◌∷◌, Option, Some, None}
use Rattle.std.proofs.Common.{refl, sym, ap, ◌∙◌, subst, arith, inl, inr}
use Rattle.std.proofs.lemmas.Bool.{cases_lt}
use Rattle.rd_base.specs.Outside.{SinkTold, Rose}
use Rattle.rd_base.specs.Clocks.{ClockTold, StopperTold}
use Rattle.rd_base.specs.declared.values.Ending.{Ending}
use Rattle.rd_base.specs.declared.values.Ending.TheVariants as ending
use Rattle.rd_rules.specs.Exchange.{Rules}
use Rattle.rd_gate.specs.declared.gate.View.{View}
use Rattle.rd_gate.specs.Gate.{nobody, owner}
use Rattle.rd_token_map.specs.BookCalls.{BookCall}
use Rattle.rd_runner.specs.declared.session.Summary.{Summary}
use Rattle.rd_runner.specs.Counts.{RoseBy, stopped, unstarted, late}
use Rattle.rd_turn.specs.Turns.{Turn, Outside, outside, history_of}
use Rattle.rd_turn.specs.Runs.{EndsBy}
use Rattle.rd_turn.specs.declared.running.Over.{Over}
use Rattle.rd_turn.specs.declared.log.LogEntry.{LogEntry}
use Rattle.rd_run.specs.Ran.{SessionRan, over_by}
use Rattle.rd_run.specs.Whole.{Unmade, Unstarted, RanThrough, RunsWith, RunsBy}
use Rattle.rd_run.specs.declared.run.Run.{Run}
use Rattle.rd_run_session.specs.Left.{summary_of, last_stamp}
use Rattle.rd_run_session.specs.Counted.{Counted, capped}
use Rattle.rd_run_session.specs.Laws.{CountsStops, StampsWithin}
use Rattle.rd_run_session.proofs.Causes.{stops_are_counted, stamps_are_within}
use Rattle.rd_rules.proofs.Endings.{never_unstarted}

-- ---- counts that stand still

still : (s : Summary) (c c' : ClockTold) (q q' : StopperTold) (f f' : ℕ) → s.ending ≡ ending.NoMemory → q'.yeses ≡ q.yeses → f' ≡ f → c'.span ≡ c.span → q.yeses ≤ 2 ^ 64 - 1 → Counted s c c' q q' f f'
still s c c' q q' f f' none yeses refusals span most =
    let quiet : stopped s.ending ≡ 0 = ap stopped none in
    let begun : unstarted s.ending ≡ 0 = ap unstarted none in
    let early : late s.last s.ending ≡ 0 = ap (late s.last) none in
    record {
      yeses = inl (omega (arith, quiet, yeses));
      yeses_stay = omega (arith, yeses);
      yeses_most = omega (arith, yeses, most);
      refused = inl (omega (arith, begun, refusals));
      refused_stay = omega (arith, refusals);
      latest = omega (arith, early);
      span = omega (arith, span);
    }

-- ---- a refused start

refused_by : (f f' : ℕ) → Rose f f' → RoseBy 1 (capped f) (capped f')
refused_by f f' (inl less) = elim (cases_lt (2 ^ 64 - 1) f') [ inl past ↦ inr (omega arith) | inr within ↦ inl (omega arith) ]
refused_by f f' (inr last) = inr (omega arith)

refused_stays : (f f' : ℕ) → Rose f f' → capped f ≤ capped f'
refused_stays f f' (inl less) = omega arith
refused_stays f f' (inr last) = omega arith

unstarted_counted : (s : Summary) (c c' : ClockTold) (q q' : StopperTold) (f f' : ℕ) → s.ending ≡ ending.Unstarted → q'.yeses ≡ q.yeses → Rose f f' → c'.span ≡ c.span → q.yeses ≤ 2 ^ 64 - 1 → Counted s c c' q q' f f'
unstarted_counted s c c' q q' f f' is yeses rose span most =
    let quiet : stopped s.ending ≡ 0 = ap stopped is in
    let early : late s.last s.ending ≡ 0 = ap (late s.last) is in
    record {
      yeses = inl (omega (arith, quiet, yeses));
      yeses_stay = omega (arith, yeses);
      yeses_most = omega (arith, yeses, most);
      refused = subst (λ n. RoseBy n (capped f) (capped f')) (sym (ap unstarted is)) (refused_by f f' rose);
      refused_stay = refused_stays f f' rose;
      latest = omega (arith, early);
      span = omega (arith, span);
    }

-- ---- a session that ran to its end

by_ending : (e : Ending) (y y' : ℕ) → y ≤ y' → (e ≡ ending.Stopped → RoseBy 1 y y') → RoseBy (stopped e) y y'
by_ending ending.Stopped y y' more rose = rose refl
by_ending ending.Done y y' more rose = inl (omega arith)
by_ending (ending.Closed l) y y' more rose = inl (omega arith)
by_ending ending.Retired y y' more rose = inl (omega arith)
by_ending (ending.Disagree n k p) y y' more rose = inl (omega arith)
by_ending (ending.Noise n p) y y' more rose = inl (omega arith)
by_ending (ending.Malformed l) y y' more rose = inl (omega arith)
by_ending (ending.TooBig l) y y' more rose = inl (omega arith)
by_ending (ending.Unsupported l k) y y' more rose = inl (omega arith)
by_ending (ending.Unsolicited l) y y' more rose = inl (omega arith)
by_ending (ending.Broken l) y y' more rose = inl (omega arith)
by_ending (ending.Late w) y y' more rose = inl (omega arith)
by_ending (ending.LinkFault l) y y' more rose = inl (omega arith)
by_ending ending.FullLog y y' more rose = inl (omega arith)
by_ending ending.NoMemory y y' more rose = inl (omega arith)
by_ending ending.Unstarted y y' more rose = inl (omega arith)

late_within : (e : Ending) (last s : ℕ) → last ≤ s → late last e ≤ s
late_within (ending.Late w) last s le = le
late_within ending.Stopped last s le = omega arith
late_within ending.Done last s le = omega arith
late_within (ending.Closed l) last s le = omega arith
late_within ending.Retired last s le = omega arith
late_within (ending.Disagree n k p) last s le = omega arith
late_within (ending.Noise n p) last s le = omega arith
late_within (ending.Malformed l) last s le = omega arith
late_within (ending.TooBig l) last s le = omega arith
late_within (ending.Unsupported l k) last s le = omega arith
late_within (ending.Unsolicited l) last s le = omega arith
late_within (ending.Broken l) last s le = omega arith
late_within (ending.LinkFault l) last s le = omega arith
late_within ending.FullLog last s le = omega arith
late_within ending.NoMemory last s le = omega arith
late_within ending.Unstarted last s le = omega arith

not_unstarted : (e : Ending) → (e ≡ ending.Unstarted → ⊥) → unstarted e ≡ 0
not_unstarted ending.Unstarted no_start = absurd (no_start refl)
not_unstarted ending.Stopped no_start = refl
not_unstarted ending.Done no_start = refl
not_unstarted (ending.Closed l) no_start = refl
not_unstarted ending.Retired no_start = refl
not_unstarted (ending.Disagree n k p) no_start = refl
not_unstarted (ending.Noise n p) no_start = refl
not_unstarted (ending.Malformed l) no_start = refl
not_unstarted (ending.TooBig l) no_start = refl
not_unstarted (ending.Unsupported l k) no_start = refl
not_unstarted (ending.Unsolicited l) no_start = refl
not_unstarted (ending.Broken l) no_start = refl
not_unstarted (ending.Late w) no_start = refl
not_unstarted (ending.LinkFault l) no_start = refl
not_unstarted ending.FullLog no_start = refl
not_unstarted ending.NoMemory no_start = refl

was_started : (r : Rules) (base : ℕ) (turns given_up : List Turn) (over : Over) → EndsBy r base (history_of base turns) given_up over → over.ending ≡ ending.Unstarted → ⊥
was_started r base turns [] over ends is = never_unstarted r (history_of base turns) (ends.0 ∙ ap Some is)
was_started r base turns (t ∷ more) over ends is = cc (sym ends.0 ∙ is)

module _ {S R : Type 0} where
  by_pass : (r : Rules) (c c' : ClockTold) (q q' : StopperTold) (b b' : Option (List BookCall)) (f f' : ℕ) (p : Option View) (run : Run S R) (olds news : List SinkTold)
      → RunsWith r (λ v. outside v c q b) (λ v. outside v c' q' b') f f' p run olds news → q.yeses ≤ 2 ^ 64 - 1 → Counted (summary_of run.report) c c' q q' f f'
  by_pass r c c' q q' b b' f f' None run olds news u most =
      still (summary_of run.report) c c' q q' f f' u.end
      (ap (λ (o : Outside). o.stopper.yeses) (u.asked nobody)) u.refused (ap (λ (o : Outside). o.clock.span) (u.asked nobody)) most
  by_pass r c c' q q' b b' f f' (Some v) run olds news (inl u) most =
      unstarted_counted (summary_of run.report) c c' q q' f f' u.end
      (ap (λ (o : Outside). o.stopper.yeses) (u.asked nobody)) u.refused (ap (λ (o : Outside). o.clock.span) (u.asked nobody)) most
  by_pass r c c' q q' b b' f f' (Some v) run olds news (inr t) most =
      let before = outside (owner (r.limits.copies + 1) [] [] []) c q b in
      let after = outside v c' q' b' in
      let stops = stops_are_counted r before after run.report.log.entries run.report.told _ olds news t.session most in
      let stamps = stamps_are_within r before after run.report.log.entries run.report.told _ olds news t.session in
      let begun : unstarted run.report.ending ≡ 0 = not_unstarted run.report.ending (was_started r t.session.base t.session.history.turns t.session.history.given_up _ t.session.history.truly.ends) in
      let same = t.refused in
      record {
        yeses = by_ending run.report.ending q.yeses q'.yeses stops.stays stops.rose;
        yeses_stay = stops.stays;
        yeses_most = stops.most;
        refused = inl (omega (arith, begun, same));
        refused_stay = omega (arith, same);
        latest = late_within run.report.ending (last_stamp run.report.log.entries) c'.span stamps.last;
        span = stamps.stays;
      }

  pub runs_counted : (r : Rules) (c c' : ClockTold) (q q' : StopperTold) (b b' : Option (List BookCall)) (f f' : ℕ) (run : Run S R) (olds news : List SinkTold)
      → RunsBy r (λ v. outside v c q b) (λ v. outside v c' q' b') f f' run olds news → q.yeses ≤ 2 ^ 64 - 1 → Counted (summary_of run.report) c c' q q' f f'
  runs_counted r c c' q q' b b' f f' run olds news = by_pass r c c' q q' b b' f f' run.report.log.pass run olds news
