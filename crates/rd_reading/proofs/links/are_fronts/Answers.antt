use Rattle.std.proofs.Common.{◌∙◌, sym}
use Rattle.rd_reading.proofs.OneFront.{fronts-of, fronts-tested}
use Rattle.rd_reading.proofs.links.are_fronts.Goals as goal

pub returns : goal.returns
returns c = λ same. fronts-of c.longest-top.result.now c.args.opens.now (fronts-tested c.longest-top.result.now c.args.opens.now (sym c.are_fronts_of.ensures ∙ same))
