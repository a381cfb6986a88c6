use Rattle.std.proofs.Common.{[], map, append-nil}
use Rattle.std.specs.Prelude.{string_bytes}
use Rattle.rddr.specs.Outcome.{outcome}
use Rattle.rd_session_run.proofs.Held.{holds_front}
use Rattle.rddr.proofs.replay.replay_main.Goals as goal

pub returns-in-Ok-clause-prefix : goal.returns-in-Ok-clause-prefix
returns-in-Ok-clause-prefix g c = λ all tells.
    let text = (outcome (map string_bytes c.args.words.now) all).text in
    holds_front (g.K.Sink.tells c.args.out.now).held (g.K.Sink.tells c.answer.new.out).held text [] text (append-nil text) (c.in-Ok.ensures.text all tells)
