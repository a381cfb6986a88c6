use Rattle.std.proofs.Common.{◌∙◌, sym, ap}
use Rattle.rd_script.specs.Script.{what_of}
use Rattle.rd_script.proofs.line.read_what.Goals as goal

pub returns-in-None : goal.returns-in-None
returns-in-None c = c.read_alone.ensures c.args.copies ∙ sym (ap (what_of c.args.copies) c.in-None.ensures.cut)
