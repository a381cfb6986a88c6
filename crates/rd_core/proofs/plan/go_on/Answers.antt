use Rattle.std.proofs.Common.{Result, Ok, Err, ap, ◌∙◌}
use Rattle.std.specs.Prelude.{IfOk}
use Rattle.rd_core.specs.Stages.{seen_stage}
use Rattle.rd_core.specs.OwnLists.{latest_of}
use Rattle.rd_core.proofs.Quieted.{stage-still, sends-still, rows-still, masked-still}
use Rattle.rd_core.proofs.plan.go_on.Goals as goal

if_ok : {A E : Type 0} (P Q : A → Type 0) (r : Result A E) → ((x : A) → P x → Q x) → IfOk r P → IfOk r Q
if_ok P Q (Ok x) go p = go x p
if_ok P Q (Err e) go p = p

pub returns-then-still_waits-clause-stage : goal.returns-then-still_waits-clause-stage
returns-then-still_waits-clause-stage g c =
    let stage = c.args.stage.now in
    let own = c.args.own.now in
    if_ok _ _ c.wait_on.result
    (λ p quiet. ap (λ o. seen_stage stage (latest_of own o)) quiet.own ∙ stage-still (g.D.Dialect.grammar c.args.dialect.now) c.args.setup.now stage quiet.waits c.requires.out own)
    c.wait_on.ensures.quiet

pub returns-then-still_waits-clause-sends : goal.returns-then-still_waits-clause-sends
returns-then-still_waits-clause-sends g c =
    if_ok _ _ c.wait_on.result
    (λ p quiet. quiet.sends ∙ sends-still (g.D.Dialect.grammar c.args.dialect.now) c.args.setup.now c.args.stage.now quiet.waits c.requires.out c.args.own.now c.args.told.now)
    c.wait_on.ensures.quiet

pub returns-then-still_waits-clause-rows : goal.returns-then-still_waits-clause-rows
returns-then-still_waits-clause-rows g c =
    if_ok _ _ c.wait_on.result
    (λ p quiet. quiet.rows ∙ rows-still (g.D.Dialect.grammar c.args.dialect.now) c.args.setup.now c.args.stage.now quiet.waits c.requires.out)
    c.wait_on.ensures.quiet

pub returns-then-still_waits-clause-masked : goal.returns-then-still_waits-clause-masked
returns-then-still_waits-clause-masked g c =
    if_ok _ _ c.wait_on.result
    (λ p quiet. quiet.masked ∙ masked-still (g.D.Dialect.grammar c.args.dialect.now) c.args.setup.now c.args.stage.now quiet.waits c.requires.out)
    c.wait_on.ensures.quiet
