use Rattle.std.proofs.Common.{ap, ap₂, ◌∙◌}
use Rattle.rd_rules.specs.Trouble.{or_else}
use Rattle.rd_core.specs.Faults.{fault_of}
use Rattle.rd_core.proofs.Faulty.{fault_is}
use Rattle.rd_core.proofs.faults.fault.Goals as goal

pub returns : goal.returns
returns c = c.or_else.ensures ∙ ap₂ or_else (c.link_fault.ensures ∙ ap (fault_of c.args.limits.now.copies) c.failing.ensures ∙ fault_is c.args.limits.now.copies c.args.what.now) c.stopped.ensures
