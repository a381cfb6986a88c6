use Rattle.std.proofs.Common.{arith}
use Rattle.std.proofs.lemmas.Grind.{common_steps}
use Rattle.rd_pg_frame.specs.ReplyLaws.{reply_is}
use Rattle.rd_pg_frame.proofs.phase.phase_after.Goals as goal

pub returns-in-1-clause-reply : goal.returns-in-1-clause-reply
returns-in-1-clause-reply c = λ side is. reply_is side c.args.note _ c.args.reply.now is (grind (arith, common_steps))

pub returns-in-3-clause-reply : goal.returns-in-3-clause-reply
returns-in-3-clause-reply c = λ side is. reply_is side c.args.note _ c.args.reply.now is (grind (arith, common_steps))

pub returns-in-5-clause-reply : goal.returns-in-5-clause-reply
returns-in-5-clause-reply c = λ side is. reply_is side c.args.note _ c.args.reply.now is (grind (arith, common_steps))
