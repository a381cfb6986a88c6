use Rattle.std.proofs.Common.{Err}
use Rattle.std.proofs.lemmas.Result.{IfOk-weaker}
use Rattle.rd_keeper.specs.declared.keeper.KeepFail.TheVariants.{Failed}
use Rattle.rd_operator.proofs.replies.notes_reply.Goals as goal

pub returns-in-Err-Failed-clause-reply : goal.returns-in-Err-Failed-clause-reply
returns-in-Err-Failed-clause-reply g c =
    IfOk-weaker c.refusal.result _ _
    (λ r h. record { answer = Err Failed; is = h; told = λ notes e. tt; cause = rw c.in-Err-Failed.field-0-is at c.in-Err-Failed.ensures.cause })
    c.refusal.ensures
