use Rattle.std.proofs.Common.{◌≡◌, refl, sym, ap, ◌∙◌}
use Rattle.rd_run.proofs.Leaves.{drains_none, drains_took, drains_looked}
use Rattle.rd_run.proofs.leaving.drain.Goals as goal

pub loop-init : goal.loop-init
loop-init g c = record { gate = refl; drains = drains_none c.args.gate.now.knows c.args.left }

pub loop-preserved-in-Some-take : goal.loop-preserved-in-Some-take
loop-preserved-in-Some-take g c = record {
  gate = c.in-Some-take.ensures.gate ∙ c.loop.invariant.gate;
  drains = drains_took c.args.gate.now.knows c.loop.gate.knows c.take.new.self.knows c.args.left c.loop.left c.keep-left.result c.in-Some-take.link c.in-Some-take.item c.loop.invariant.drains c.in-Some-take.ensures.took c.keep-left.ensures;
}
