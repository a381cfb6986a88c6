use Rattle.std.proofs.Common.{string_bytes}
use Rattle.std.proofs.lemmas.Result.{IfOk-weaker}
use Rattle.rd_operator.proofs.Floats.{page_text}
use Rattle.rd_operator.proofs.json.notes_body.Goals as goal

pub returns : goal.returns
returns c =
    IfOk-weaker c.to_string.result _ _ (λ s h. page_text c.in_ok-body.body c.args.notes.now (string_bytes s) c.in_ok-body.ensures h) c.to_string.ensures.text
