use Rattle.std.proofs.Common.{◌≡◌, sym, ◌∙◌, ap, true, false}
use Rattle.std.specs.Prelude.{is_some}
use Rattle.rd_reading.specs.Seen.{rules_of}
use Rattle.rd_core.specs.Clocks.{entry_of}
use Rattle.rd_core.proofs.Moves.{not_oversized}
use Rattle.rd_core.proofs.Taken.{over_at, over_sent, result_at, result_sent, none_of}
use Rattle.rd_core.proofs.session.Session.take.Goals as goal

pub returns-then-is_some-clause-at : goal.returns-then-is_some-clause-at
returns-then-is_some-clause-at g c =
    let old = c.args.self.now in
    let over : is_some old.ending ≡ true = sym (ap (λ v. is_some v.ending) c.self.view_is) ∙ sym c.is_some.ensures ∙ c.if-is_some.true in
    λ h w at. over_at (rules_of (g.D.Dialect.grammar old.dialect) old.setup) (g.met.D.Dialect.lawful old.dialect) old h at (entry_of c.args.happening.now c.args.told.now) w over

pub returns-then-is_some-clause-sent : goal.returns-then-is_some-clause-sent
returns-then-is_some-clause-sent g c =
    let old = c.args.self.now in
    let over : is_some old.ending ≡ true = sym (ap (λ v. is_some v.ending) c.self.view_is) ∙ sym c.is_some.ensures ∙ c.if-is_some.true in
    λ h w at. over_sent (rules_of (g.D.Dialect.grammar old.dialect) old.setup) (g.met.D.Dialect.lawful old.dialect) old h at (entry_of c.args.happening.now c.args.told.now) w c.new.result over c.new.ensures

pub returns-then-is_oversized-clause-at : goal.returns-then-is_oversized-clause-at
returns-then-is_oversized-clause-at g c = λ h w at. absurd (not_oversized c.args.self.now.setup.limits.copies h (entry_of c.args.happening.now c.args.told.now) w (sym c.is_oversized.ensures ∙ c.if-is_oversized.true))

pub returns-then-is_oversized-clause-sent : goal.returns-then-is_oversized-clause-sent
returns-then-is_oversized-clause-sent g c = λ h w at. absurd (not_oversized c.args.self.now.setup.limits.copies h (entry_of c.args.happening.now c.args.told.now) w (sym c.is_oversized.ensures ∙ c.if-is_oversized.true))

pub returns-clause-at : goal.returns-clause-at
returns-clause-at g c =
    let old = c.args.self.now in
    let live : is_some old.ending ≡ false = sym (ap (λ v. is_some v.ending) c.self.view_is) ∙ sym c.is_some.ensures ∙ c.if-is_some.false in
    result_at (rules_of (g.D.Dialect.grammar old.dialect) old.setup) (g.met.D.Dialect.lawful old.dialect) old c.go.new.self (entry_of c.args.happening.now c.args.told.now) c.go.result (none_of old.ending live) c.go.ensures.steps c.go.ensures.counts

pub returns-clause-sent : goal.returns-clause-sent
returns-clause-sent g c =
    let old = c.args.self.now in
    let live : is_some old.ending ≡ false = sym (ap (λ v. is_some v.ending) c.self.view_is) ∙ sym c.is_some.ensures ∙ c.if-is_some.false in
    result_sent (rules_of (g.D.Dialect.grammar old.dialect) old.setup) (g.met.D.Dialect.lawful old.dialect) old c.go.new.self (entry_of c.args.happening.now c.args.told.now) c.go.result (none_of old.ending live) c.go.ensures.steps
