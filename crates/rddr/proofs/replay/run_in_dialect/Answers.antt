use Rattle.std.proofs.Common.{◌≡◌, refl, ap, subst, IfOk, OnOk, OnErr}
use Rattle.rd_base.specs.Outside.{HoldsPrefix, held_with}
use Rattle.rd_http_tokens.specs.HttpOn.{HttpView, http_on}
use Rattle.rd_rules.specs.Exchange.{Rules}
use Rattle.rd_rules.specs.Sent.{final, transcript}
use Rattle.rd_session_run.specs.Transcripts.{transcript_text}
use Rattle.rddr.proofs.Dialects.{named_line, named_http, named_pg}
use Rattle.rddr.proofs.replay.run_in_dialect.Goals as goal

pub returns-in-Line-clause-ending : goal.returns-in-Line-clause-ending
returns-in-Line-clause-ending g c =
    let same = named_line c.args.dialect c.args.names.now c.args.limits c.args.script.now.side c.side-side.result _ c.in-Line.is (refl) c.side-side.ensures in
    subst (λ (r : Rules). IfOk c.run_script.result (λ e. e ≡ final r c.args.script.now.entries)) same c.run_script.ensures.ending

pub returns-in-Line-clause-text : goal.returns-in-Line-clause-text
returns-in-Line-clause-text g c =
    let same = named_line c.args.dialect c.args.names.now c.args.limits c.args.script.now.side c.side-side.result _ c.in-Line.is (refl) c.side-side.ensures in
    subst (λ (r : Rules). OnOk c.run_script.result ((g.K.Sink.tells c.run_script.new.out).held ≡ held_with (g.K.Sink.tells c.args.out.now).held (transcript_text (transcript r c.args.script.now.entries)))) same c.run_script.ensures.ok

pub returns-in-Line-clause-prefix : goal.returns-in-Line-clause-prefix
returns-in-Line-clause-prefix g c =
    let same = named_line c.args.dialect c.args.names.now c.args.limits c.args.script.now.side c.side-side.result _ c.in-Line.is (refl) c.side-side.ensures in
    subst (λ (r : Rules). OnErr c.run_script.result (HoldsPrefix (g.K.Sink.tells c.args.out.now).held (g.K.Sink.tells c.run_script.new.out).held (transcript_text (transcript r c.args.script.now.entries)))) same c.run_script.ensures.err

pub returns-in_ok-http-in-Http-clause-ending : goal.returns-in_ok-http-in-Http-clause-ending
returns-in_ok-http-in-Http-clause-ending g c =
    let same = named_http c.args.dialect c.args.names.now c.args.limits c.args.script.now.side c.side-side.result _ c.in-Http.is (ap (λ (h : HttpView). http_on h.side h.rules) c.in_ok-http-in-Http.ensures) c.side-side.ensures in
    subst (λ (r : Rules). IfOk c.run_script-in-Http.result (λ e. e ≡ final r c.args.script.now.entries)) same c.run_script-in-Http.ensures.ending

pub returns-in_ok-http-in-Http-clause-text : goal.returns-in_ok-http-in-Http-clause-text
returns-in_ok-http-in-Http-clause-text g c =
    let same = named_http c.args.dialect c.args.names.now c.args.limits c.args.script.now.side c.side-side.result _ c.in-Http.is (ap (λ (h : HttpView). http_on h.side h.rules) c.in_ok-http-in-Http.ensures) c.side-side.ensures in
    subst (λ (r : Rules). OnOk c.run_script-in-Http.result ((g.K.Sink.tells c.run_script-in-Http.new.out).held ≡ held_with (g.K.Sink.tells c.args.out.now).held (transcript_text (transcript r c.args.script.now.entries)))) same c.run_script-in-Http.ensures.ok

pub returns-in_ok-http-in-Http-clause-prefix : goal.returns-in_ok-http-in-Http-clause-prefix
returns-in_ok-http-in-Http-clause-prefix g c =
    let same = named_http c.args.dialect c.args.names.now c.args.limits c.args.script.now.side c.side-side.result _ c.in-Http.is (ap (λ (h : HttpView). http_on h.side h.rules) c.in_ok-http-in-Http.ensures) c.side-side.ensures in
    subst (λ (r : Rules). OnErr c.run_script-in-Http.result (HoldsPrefix (g.K.Sink.tells c.args.out.now).held (g.K.Sink.tells c.run_script-in-Http.new.out).held (transcript_text (transcript r c.args.script.now.entries)))) same c.run_script-in-Http.ensures.err

pub returns-in_ok-pg-in-Pg-clause-ending : goal.returns-in_ok-pg-in-Pg-clause-ending
returns-in_ok-pg-in-Pg-clause-ending g c =
    let same = named_pg c.args.dialect c.args.names.now c.args.limits c.args.script.now.side c.side-side.result _ c.in-Pg.is (c.in_ok-pg-in-Pg.ensures) c.side-side.ensures in
    subst (λ (r : Rules). IfOk c.run_script-in-Pg.result (λ e. e ≡ final r c.args.script.now.entries)) same c.run_script-in-Pg.ensures.ending

pub returns-in_ok-pg-in-Pg-clause-text : goal.returns-in_ok-pg-in-Pg-clause-text
returns-in_ok-pg-in-Pg-clause-text g c =
    let same = named_pg c.args.dialect c.args.names.now c.args.limits c.args.script.now.side c.side-side.result _ c.in-Pg.is (c.in_ok-pg-in-Pg.ensures) c.side-side.ensures in
    subst (λ (r : Rules). OnOk c.run_script-in-Pg.result ((g.K.Sink.tells c.run_script-in-Pg.new.out).held ≡ held_with (g.K.Sink.tells c.args.out.now).held (transcript_text (transcript r c.args.script.now.entries)))) same c.run_script-in-Pg.ensures.ok

pub returns-in_ok-pg-in-Pg-clause-prefix : goal.returns-in_ok-pg-in-Pg-clause-prefix
returns-in_ok-pg-in-Pg-clause-prefix g c =
    let same = named_pg c.args.dialect c.args.names.now c.args.limits c.args.script.now.side c.side-side.result _ c.in-Pg.is (c.in_ok-pg-in-Pg.ensures) c.side-side.ensures in
    subst (λ (r : Rules). OnErr c.run_script-in-Pg.result (HoldsPrefix (g.K.Sink.tells c.args.out.now).held (g.K.Sink.tells c.run_script-in-Pg.new.out).held (transcript_text (transcript r c.args.script.now.entries)))) same c.run_script-in-Pg.ensures.err
