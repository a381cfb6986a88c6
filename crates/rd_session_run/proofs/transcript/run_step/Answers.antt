use Rattle.std.proofs.Common.{◌+◌, take}
use Rattle.rd_base.specs.History.{Entry, History}
use Rattle.rd_reading.specs.Seen.{rules_of}
use Rattle.rd_rules.specs.Exchange.{Rules}
use Rattle.rd_session_run.proofs.Held.{at_ok}
use Rattle.rd_session_run.proofs.Steps.{one_happening, front_well_formed, sent_text}
use Rattle.rd_session_run.proofs.transcript.run_step.Goals as goal

pub returns-clause-at : goal.returns-clause-at
returns-clause-at g c =
    let h : History = c.args.script.now.entries in
    let place = c.args.place in
    let one = one_happening h place c.happening.result.now c.told.result.now c.happening.ensures c.told.ensures in
    let well = rw one at (front_well_formed c.args.session.now.setup.limits.copies h (place + 1) c.requires.well_formed) in
    at_ok c.write_sends.result (rw one (c.in_ok-sends.ensures.at (take place h) well c.requires.at))

pub returns-clause-ok : goal.returns-clause-ok
returns-clause-ok g c =
    let rules : Rules = rules_of (g.D.Dialect.grammar c.args.session.now.dialect) c.args.session.now.setup in
    let h : History = c.args.script.now.entries in
    let place = c.args.place in
    let e : Entry = record { at = c.happening.result.now.at; what = c.happening.result.now.what; told = c.told.result.now } in
    let one = one_happening h place c.happening.result.now c.told.result.now c.happening.ensures c.told.ensures in
    let well = rw one at (front_well_formed c.args.session.now.setup.limits.copies h (place + 1) c.requires.well_formed) in
    let text = sent_text rules h place e c.in_ok-sends.sends one (c.in_ok-sends.ensures.sent (take place h) well c.requires.at).are in
    rw (← text) c.write_sends.ensures.ok

pub returns-clause-err : goal.returns-clause-err
returns-clause-err g c =
    let rules : Rules = rules_of (g.D.Dialect.grammar c.args.session.now.dialect) c.args.session.now.setup in
    let h : History = c.args.script.now.entries in
    let place = c.args.place in
    let e : Entry = record { at = c.happening.result.now.at; what = c.happening.result.now.what; told = c.told.result.now } in
    let one = one_happening h place c.happening.result.now c.told.result.now c.happening.ensures c.told.ensures in
    let well = rw one at (front_well_formed c.args.session.now.setup.limits.copies h (place + 1) c.requires.well_formed) in
    let text = sent_text rules h place e c.in_ok-sends.sends one (c.in_ok-sends.ensures.sent (take place h) well c.requires.at).are in
    rw (← text) c.write_sends.ensures.err
