use Rattle.std.proofs.Common.{[], append-nil}
use Rattle.rddr.specs.Works.{refusal_outcome}
use Rattle.rd_session_run.proofs.Held.{holds_front}
use Rattle.rddr.proofs.replay.refuse_to_serve.Goals as goal

pub returns-in-Ok-clause-prefix : goal.returns-in-Ok-clause-prefix
returns-in-Ok-clause-prefix g c =
    let text = (refusal_outcome c.args.refusal).text in
    holds_front (g.K.Sink.tells c.args.out.now).held (g.K.Sink.tells c.refuse.new.out).held text [] text (append-nil text) c.in-Ok.ensures.text
