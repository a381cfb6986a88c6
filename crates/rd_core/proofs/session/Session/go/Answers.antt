use Rattle.std.proofs.Common.{Result, Ok, Err, ap, ◌∙◌}
use Rattle.std.specs.Prelude.{OnErr}
use Rattle.rd_rules.specs.Trouble.{Now}
use Rattle.rd_core.proofs.session.Session.go.Goals as goal

on_err : {A E : Type 0} (r : Result A E) (P : Type 0) → P → OnErr r P
on_err (Ok x) P p = tt
on_err (Err e) P p = p

pub returns-in_err-rows-clause-err : goal.returns-in_err-rows-clause-err
returns-in_err-rows-clause-err g c =
    let i = c.self.inside in
    on_err c.from_residual.result _
    (ap (λ (n : Now). record { dialect = i.dialect; setup = i.setup; at = record { stage = n; entries = i.clock.entries; moment = i.clock.moment; began = i.clock.began }; tally = record { masked = i.masked; rows = i.rows }; ending = i.ending })
    (c.in_err-rows.ensures.err i.own)
    ∙ c.self.view_is)
