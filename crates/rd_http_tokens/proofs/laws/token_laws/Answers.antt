use Rattle.rd_http_tokens.proofs.HeadTokens.{are_declared}
use Rattle.rd_http_tokens.proofs.laws.token_laws.Goals as goal

pub returns : goal.returns
returns c = are_declared
