use Rattle.std.proofs.Common.{◌+◌, map, sym, ap, subst, inr}
use Rattle.rd_run.specs.Links.{LinksDone}
use Rattle.rd_run.specs.Logs.{LogView}
use Rattle.rd_run.specs.Whole.{may_stay, taken_in}
use Rattle.rd_run.proofs.Links.{links_stay}
use Rattle.rd_run.proofs.Wholes.{none_is}
use Rattle.rd_run.proofs.run.run_unmade.Goals as goal

pub returns-clause-sources : goal.returns-clause-sources
returns-clause-sources g c =
    let tells = g.S.Source.tells in
    let run = c.unmade.result in
    subst (λ ys. LinksDone (may_stay run) (taken_in run) 0 (map tells c.args.sources.items) ys) (sym (ap (λ v. map tells v.items) c.unmade.ensures.sources))
    (links_stay (may_stay run) tells (taken_in run) 0 c.args.sources.items (inr (ap (λ (l : LogView). l.pass) c.unmade.ensures.log)) (λ j lt. none_is run c.unmade.ensures.log (0 + j)))
