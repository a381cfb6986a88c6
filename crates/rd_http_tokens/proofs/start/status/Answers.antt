use Rattle.rd_http_tokens.proofs.Starts.{reply_found}
use Rattle.rd_http_tokens.proofs.start.status.Goals as goal

pub returns : goal.returns
returns c = λ text len there names whole.
    reply_found names whole text c.args.len c.min.result c.min-2.result c.unstated.result len there c.min.ensures c.min-2.ensures c.unstated.ensures
