use Rattle.std.proofs.Common.{◌+◌, take, ap, ◌∙◌, not, arith}
use Rattle.rd_base.specs.History.{Entry, History}
use Rattle.rd_reading.specs.Seen.{rules_of}
use Rattle.rd_rules.specs.Exchange.{Rules}
use Rattle.rd_session_run.proofs.Events.{events_live, events_over}
use Rattle.rd_session_run.proofs.Steps.{one_happening, front_well_formed}
use Rattle.rd_session_run.proofs.Sums.{few_sent, single_more, others_more}
use Rattle.rd_session_run.proofs.summary.count_step.Goals as goal
use Rattle.rd_session_run.proofs.summary.count_step.Goals.{then-is_live, else-is_live}

pub with_sends-counts-requires-clause-few : goal.with_sends-counts-requires-clause-few
with_sends-counts-requires-clause-few g c =
    let rules : Rules = rules_of (g.D.Dialect.grammar c.args.session.now.dialect) c.args.session.now.setup in
    let h : History = c.args.script.now.entries in
    let place = c.args.place in
    let e : Entry = record { at = c.happening.result.now.at; what = c.happening.result.now.what; told = c.told.result.now } in
    let one = one_happening h place c.happening.result.now c.told.result.now c.happening.ensures c.told.ensures in
    let well = rw one at (front_well_formed c.args.session.now.setup.limits.copies h (place + 1) c.requires.well_formed) in
    few_sent rules (take place h) e c.in_ok-sends.sends (c.in_ok-sends.ensures.sent (take place h) well c.requires.at) (omega arith)

pub returns-clause-at : goal.returns-clause-at
returns-clause-at g c =
    let h : History = c.args.script.now.entries in
    let place = c.args.place in
    let one = one_happening h place c.happening.result.now c.told.result.now c.happening.ensures c.told.ensures in
    let well = rw one at (front_well_formed c.args.session.now.setup.limits.copies h (place + 1) c.requires.well_formed) in
    rw one (c.in_ok-sends.ensures.at (take place h) well c.requires.at)

pub returns-clause-counts : goal.returns-clause-counts
returns-clause-counts g c =
    let rules : Rules = rules_of (g.D.Dialect.grammar c.args.session.now.dialect) c.args.session.now.setup in
    let h : History = c.args.script.now.entries in
    let place = c.args.place in
    let e : Entry = record { at = c.happening.result.now.at; what = c.happening.result.now.what; told = c.told.result.now } in
    let one = one_happening h place c.happening.result.now c.told.result.now c.happening.ensures c.told.ensures in
    let well = rw one at (front_well_formed c.args.session.now.setup.limits.copies h (place + 1) c.requires.well_formed) in
    let more = c.in_ok-sends.ensures.sent (take place h) well c.requires.at in
    let ending = c.ending.ensures.ending (take place h) c.requires.at in
    let kept = c.with_sends-counts.ensures.events ∙ c.requires.counts.events in
    rw one
    (record {
      events =
          elim c.if-is_live.branch [
            | then-is_live w ↦ w.result-is ∙ events_live rules (take place h) e c.ending.result c.with_sends-counts.result.events ending (c.is_none-is_live.ensures ∙ ap not w.if-is_live.true) kept
            | else-is_live w ↦ w.result-is ∙ events_over rules (take place h) e c.ending.result c.with_sends-counts.result.events ending (c.is_none-is_live.ensures ∙ ap not w.if-is_live.false) kept
          ];
      to_client = c.with_sends-counts.ensures.to_client ∙ single_more rules (take place h) e c.in_ok-sends.sends more c.args.copies c.args.counts.to_client c.requires.copies c.requires.counts.to_client;
      to_instances = c.with_sends-counts.ensures.to_instances ∙ others_more rules (take place h) e c.in_ok-sends.sends more c.args.copies c.args.counts.to_instances c.requires.copies c.requires.counts.to_instances;
    })
