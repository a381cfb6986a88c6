use Rattle.std.proofs.Common.{◌≡◌, ap, ◌∙◌, sym, subst}
use Rattle.rd_base.specs.History.{History}
use Rattle.rd_base.specs.Outside.{HoldsPrefix, held_with}
use Rattle.rd_base.specs.declared.values.Side.TheVariants.{Incoming}
use Rattle.rd_script.specs.Generator.{generated}
use Rattle.rd_script.specs.Script.{ScriptState}
use Rattle.rddr.specs.Outcome.{generate_under, summary_outcome, line_rules, status_of}
use Rattle.rd_session_run.specs.Summaries.{summary, summary_text}
use Rattle.rd_session_run.specs.declared.summary.Summary.{Summary}
use Rattle.rd_session_run.proofs.Held.{at_error}
use Rattle.rddr.proofs.replay.generate_and_run.Goals as goal

pub returns-in_err-push-clause-prefix : goal.returns-in_err-push-clause-prefix
unfolding summary_outcome
returns-in_err-push-clause-prefix g c =
    let counted : c.in_ok-summary.summary ≡ summary (line_rules c.args.limits Incoming) (generated c.args.limits.copies c.args.number).entries = c.in_ok-summary.ensures ∙ ap (λ (s : ScriptState). summary (line_rules c.args.limits Incoming) s.entries) c.in_ok-script.ensures.script in
    let text = c.as_bytes.ensures.value ∙ c.in_ok-text.ensures ∙ ap summary_text counted in
    at_error c.from_residual-in_err-push.result (rw text at c.in_err-push.ensures.part)

pub returns-clause-status : goal.returns-clause-status
unfolding summary_outcome summary
returns-clause-status g c =
    let counted : c.in_ok-summary.summary ≡ summary (line_rules c.args.limits Incoming) (generated c.args.limits.copies c.args.number).entries = c.in_ok-summary.ensures ∙ ap (λ (s : ScriptState). summary (line_rules c.args.limits Incoming) s.entries) c.in_ok-script.ensures.script in
    c.status_of.ensures.status ∙ ap (λ (s : Summary). status_of s.ending) counted

pub returns-clause-text : goal.returns-clause-text
unfolding summary_outcome
returns-clause-text g c =
    let counted : c.in_ok-summary.summary ≡ summary (line_rules c.args.limits Incoming) (generated c.args.limits.copies c.args.number).entries = c.in_ok-summary.ensures ∙ ap (λ (s : ScriptState). summary (line_rules c.args.limits Incoming) s.entries) c.in_ok-script.ensures.script in
    let text = c.as_bytes.ensures.value ∙ c.in_ok-text.ensures ∙ ap summary_text counted in
    c.in_ok-push.ensures.all ∙ ap (held_with (g.K.Sink.tells c.args.out.now).held) text
