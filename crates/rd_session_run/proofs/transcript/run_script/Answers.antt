use Rattle.std.proofs.Common.{◌≡◌, [], sym, ap, ◌∙◌, subst, append-nil, refl}
use Rattle.rd_base.specs.History.{History}
use Rattle.rd_base.specs.Outside.{HoldsPrefix, held_with}
use Rattle.rd_reading.specs.Seen.{rules_of}
use Rattle.rd_core.specs.Standing.{IsAt}
use Rattle.rd_rules.specs.Exchange.{Rules}
use Rattle.rd_rules.specs.Sent.{transcript, final}
use Rattle.rd_script.specs.Printed.{last_line}
use Rattle.rd_session_run.specs.Transcripts.{transcript_text, all_steps_text}
use Rattle.rd_session_run.proofs.Held.{held_then, holds_on, holds_longer, holds_front, at_error}
use Rattle.rd_session_run.proofs.Ruled.{same_rules, made_rules}
use Rattle.rd_session_run.proofs.transcript.run_script.Goals as goal

pub returns-in_err-run_steps-clause-err : goal.returns-in_err-run_steps-clause-err
returns-in_err-run_steps-clause-err g c =
    let rules : Rules = record { side = c.args.side; grammar = g.D.Dialect.grammar c.args.dialect; limits = c.args.limits } in
    let now : Rules = rules_of (g.D.Dialect.grammar c.in_ok-session.session.dialect) c.in_ok-session.session.setup in
    let same : now ≡ rules = made_rules g.D.Dialect.grammar c.in_ok-session.session c.args.dialect (record { side = c.args.side; limits = c.args.limits }) c.in_ok-session.ensures.dialect c.in_ok-session.ensures.setup in
    let h : History = c.args.script.now.entries in
    let on = subst (λ (r : Rules). HoldsPrefix (g.K.Sink.tells c.args.out.now).held (g.K.Sink.tells c.run_steps.new.out).held (all_steps_text r h)) same c.in_err-run_steps.ensures.err in
    at_error c.from_residual-in_err-run_steps.result (holds_longer (g.K.Sink.tells c.args.out.now).held (g.K.Sink.tells c.run_steps.new.out).held (all_steps_text rules h) (last_line (final rules h)) on)

pub returns-in_err-push-clause-err : goal.returns-in_err-push-clause-err
returns-in_err-push-clause-err g c =
    let rules : Rules = record { side = c.args.side; grammar = g.D.Dialect.grammar c.args.dialect; limits = c.args.limits } in
    let now : Rules = rules_of (g.D.Dialect.grammar c.in_ok-session.session.dialect) c.in_ok-session.session.setup in
    let same : now ≡ rules = made_rules g.D.Dialect.grammar c.in_ok-session.session c.args.dialect (record { side = c.args.side; limits = c.args.limits }) c.in_ok-session.ensures.dialect c.in_ok-session.ensures.setup in
    let h : History = c.args.script.now.entries in
    let steps = subst (λ (r : Rules). (g.K.Sink.tells c.run_steps.new.out).held ≡ held_with (g.K.Sink.tells c.args.out.now).held (all_steps_text r h)) same c.in_ok-run_steps.ensures.ok in
    let after : Rules = rules_of (g.D.Dialect.grammar c.run_steps.new.session.dialect) c.run_steps.new.session.setup in
    let kept : now ≡ after = sym (same_rules g.D.Dialect.grammar c.run_steps.new.session c.in_ok-session.session c.in_ok-run_steps.ensures.dialect c.in_ok-run_steps.ensures.setup) in
    let at = subst (λ (r : Rules). IsAt r c.run_steps.new.session h) kept c.in_ok-run_steps.ensures.at in
    let ending : c.ending-ending.result ≡ final rules h = c.ending-ending.ensures.ending h at ∙ ap (λ (r : Rules). final r h) (sym kept ∙ same) in
    let line : c.as_bytes.result.now ≡ last_line (final rules h) = c.as_bytes.ensures.value ∙ c.in_ok-last_line.ensures ∙ ap last_line ending in
    let on = rw line at c.in_err-push.ensures.part in
    at_error c.from_residual-in_err-push.result (holds_on (g.K.Sink.tells c.args.out.now).held (g.K.Sink.tells c.run_steps.new.out).held (g.K.Sink.tells c.push.new.self).held (all_steps_text rules h) (last_line (final rules h)) [] (transcript_text (transcript rules h)) (append-nil (transcript_text (transcript rules h))) steps on)

pub returns-clause-ok : goal.returns-clause-ok
returns-clause-ok g c =
    let rules : Rules = record { side = c.args.side; grammar = g.D.Dialect.grammar c.args.dialect; limits = c.args.limits } in
    let now : Rules = rules_of (g.D.Dialect.grammar c.in_ok-session.session.dialect) c.in_ok-session.session.setup in
    let same : now ≡ rules = made_rules g.D.Dialect.grammar c.in_ok-session.session c.args.dialect (record { side = c.args.side; limits = c.args.limits }) c.in_ok-session.ensures.dialect c.in_ok-session.ensures.setup in
    let h : History = c.args.script.now.entries in
    let steps = subst (λ (r : Rules). (g.K.Sink.tells c.run_steps.new.out).held ≡ held_with (g.K.Sink.tells c.args.out.now).held (all_steps_text r h)) same c.in_ok-run_steps.ensures.ok in
    let after : Rules = rules_of (g.D.Dialect.grammar c.run_steps.new.session.dialect) c.run_steps.new.session.setup in
    let kept : now ≡ after = sym (same_rules g.D.Dialect.grammar c.run_steps.new.session c.in_ok-session.session c.in_ok-run_steps.ensures.dialect c.in_ok-run_steps.ensures.setup) in
    let at = subst (λ (r : Rules). IsAt r c.run_steps.new.session h) kept c.in_ok-run_steps.ensures.at in
    let ending : c.ending-ending.result ≡ final rules h = c.ending-ending.ensures.ending h at ∙ ap (λ (r : Rules). final r h) (sym kept ∙ same) in
    let line : c.as_bytes.result.now ≡ last_line (final rules h) = c.as_bytes.ensures.value ∙ c.in_ok-last_line.ensures ∙ ap last_line ending in
    held_then (g.K.Sink.tells c.args.out.now).held (g.K.Sink.tells c.run_steps.new.out).held (g.K.Sink.tells c.push.new.self).held (all_steps_text rules h) (last_line (final rules h)) steps (rw line at c.in_ok-push.ensures.all)

pub returns-in_err-last_line-clause-err : goal.returns-in_err-last_line-clause-err
returns-in_err-last_line-clause-err g c =
    let rules : Rules = record { side = c.args.side; grammar = g.D.Dialect.grammar c.args.dialect; limits = c.args.limits } in
    let now : Rules = rules_of (g.D.Dialect.grammar c.in_ok-session.session.dialect) c.in_ok-session.session.setup in
    let same : now ≡ rules = made_rules g.D.Dialect.grammar c.in_ok-session.session c.args.dialect (record { side = c.args.side; limits = c.args.limits }) c.in_ok-session.ensures.dialect c.in_ok-session.ensures.setup in
    let h : History = c.args.script.now.entries in
    let steps = subst (λ (r : Rules). (g.K.Sink.tells c.run_steps.new.out).held ≡ held_with (g.K.Sink.tells c.args.out.now).held (all_steps_text r h)) same c.in_ok-run_steps.ensures.ok in
    at_error c.from_residual-in_err-last_line.result (holds_front (g.K.Sink.tells c.args.out.now).held (g.K.Sink.tells c.run_steps.new.out).held (all_steps_text rules h) (last_line (final rules h)) (transcript_text (transcript rules h)) refl steps)
