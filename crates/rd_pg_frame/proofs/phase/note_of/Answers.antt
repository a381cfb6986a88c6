use Rattle.std.proofs.Common.{arith}
use Rattle.std.proofs.lemmas.Grind.{common_steps}
use Rattle.rd_pg_frame.specs.RequestLaws.{request_is}
use Rattle.rd_pg_frame.proofs.phase.note_of.Goals as goal

pub returns-in-0-clause-request : goal.returns-in-0-clause-request
returns-in-0-clause-request c = request_is c.args.phase _ c.args.unit.now c.requires (grind (arith, common_steps))

pub returns-in-1-clause-request : goal.returns-in-1-clause-request
returns-in-1-clause-request c = request_is c.args.phase _ c.args.unit.now c.requires (grind (arith, common_steps))

pub returns-in_default-clause-request : goal.returns-in_default-clause-request
returns-in_default-clause-request c = request_is c.args.phase _ c.args.unit.now c.requires (grind (arith, common_steps))
