use Rattle.std.proofs.Common.{◌≡◌, List, Some, map, ap}
use Rattle.std.specs.Prelude.{string_bytes}
use Rattle.rd_base.specs.Outside.{NamedFile}
use Rattle.rddr.specs.Outcome.{Outcome, outcome}
use Rattle.rddr.specs.Works.{is_told, refusal_outcome}
use Rattle.rd_session_run.proofs.Held.{holds_wanted}
use Rattle.rddr.proofs.replay.answer.Goals as goal

pub returns-in-Err-clause-prefix : goal.returns-in-Err-clause-prefix
returns-in-Err-clause-prefix g c =
    holds_wanted c.refuse.result (g.K.Sink.tells c.args.out.now).held (g.K.Sink.tells c.refuse.new.out).held (refusal_outcome c.in-Err.refusal).text
    (λ (all : List NamedFile). (outcome (map string_bytes c.args.words.now) all).text)
    (λ (all : List NamedFile). (g.F.Files.tells c.args.files.now).files ≡ Some all)
    (is_told c.in-Err.refusal)
    (λ told all tells. ap (λ (o : Outcome). o.text) (c.in-Err.ensures.refused told all tells))
    c.refuse.ensures.silent
    c.refuse.ensures.prefix
