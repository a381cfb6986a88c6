use Rattle.std.proofs.Common.{◌≡◌, ◌+◌, ◌≤◌, ◌++◌, take, length, ap, ◌∙◌, subst, arith}
use Rattle.rd_base.specs.History.{History}
use Rattle.rd_base.specs.Outside.{HoldsPrefix, held_with}
use Rattle.rd_reading.specs.Seen.{rules_of}
use Rattle.rd_core.specs.Standing.{IsAt}
use Rattle.rd_rules.specs.Exchange.{Rules}
use Rattle.rd_rules.specs.Sent.{steps_of}
use Rattle.rd_session_run.specs.Transcripts.{steps_text, step_text, all_steps_text}
use Rattle.rd_session_run.proofs.Held.{held_then, holds_on, at_error}
use Rattle.rd_session_run.proofs.Ruled.{same_rules}
use Rattle.rd_session_run.proofs.Steps.{one_step, begins_all}
use Rattle.rd_session_run.proofs.transcript.run_steps.Goals as goal

pub returns-in_err-run_step-clause-err : goal.returns-in_err-run_step-clause-err
returns-in_err-run_step-clause-err g c =
    let rules : Rules = rules_of (g.D.Dialect.grammar c.args.session.now.dialect) c.args.session.now.setup in
    let now : Rules = rules_of (g.D.Dialect.grammar c.loop-place.session.dialect) c.loop-place.session.setup in
    let same : now ≡ rules = same_rules g.D.Dialect.grammar c.loop-place.session c.args.session.now c.loop-place.invariant.dialect c.loop-place.invariant.setup in
    let h : History = c.args.script.now.entries in
    let place = c.loop-place.place in
    let within : place + 1 ≤ length h = omega arith in
    let front = begins_all rules h (place + 1) within in
    let on = subst (λ (r : Rules). HoldsPrefix (g.K.Sink.tells c.loop-place.out).held (g.K.Sink.tells c.run_step.new.out).held (step_text r h place)) same c.in_err-run_step.ensures.err in
    at_error c.from_residual.result (holds_on (g.K.Sink.tells c.args.out.now).held (g.K.Sink.tells c.loop-place.out).held (g.K.Sink.tells c.run_step.new.out).held (steps_text (steps_of rules h place)) (step_text rules h place) front.rest (all_steps_text rules h) (ap (λ x. x ++ front.rest) (one_step rules h place) ∙ front.is) c.loop-place.invariant.held on)

pub loop-place-preserved : goal.loop-place-preserved
loop-place-preserved g c =
    let rules : Rules = rules_of (g.D.Dialect.grammar c.args.session.now.dialect) c.args.session.now.setup in
    let now : Rules = rules_of (g.D.Dialect.grammar c.loop-place.session.dialect) c.loop-place.session.setup in
    let same : now ≡ rules = same_rules g.D.Dialect.grammar c.loop-place.session c.args.session.now c.loop-place.invariant.dialect c.loop-place.invariant.setup in
    let h : History = c.args.script.now.entries in
    let place = c.loop-place.place in
    let on = subst (λ (r : Rules). (g.K.Sink.tells c.run_step.new.out).held ≡ held_with (g.K.Sink.tells c.loop-place.out).held (step_text r h place)) same c.in_ok-run_step.ensures.ok in
    record {
      dialect = c.in_ok-run_step.ensures.dialect ∙ c.loop-place.invariant.dialect;
      setup = c.in_ok-run_step.ensures.setup ∙ c.loop-place.invariant.setup;
      at = subst (λ (r : Rules). IsAt r c.run_step.new.session (take (place + 1) h)) same c.in_ok-run_step.ensures.at;
      held = held_then (g.K.Sink.tells c.args.out.now).held (g.K.Sink.tells c.loop-place.out).held (g.K.Sink.tells c.run_step.new.out).held (steps_text (steps_of rules h place)) (step_text rules h place) c.loop-place.invariant.held on ∙ ap (held_with (g.K.Sink.tells c.args.out.now).held) (one_step rules h place);
      faults = omega (arith, c.loop-place.invariant.faults, c.in_ok-run_step.ensures.stays.faults);
      is_open = c.in_ok-run_step.ensures.stays.stays_open;
      mark = c.in_ok-run_step.ensures.stays.mark ∙ c.loop-place.invariant.mark;
    }
