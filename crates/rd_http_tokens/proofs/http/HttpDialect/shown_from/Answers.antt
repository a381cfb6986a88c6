use Rattle.rd_http_tokens.specs.Copied.{asked, copied}
use Rattle.rd_http_tokens.specs.HttpOn.{learns_on}
use Rattle.rd_http_tokens.proofs.Shown.{reply_scanned, shown_is}
use Rattle.rd_http_tokens.proofs.http.HttpDialect.shown_from.Goals as goal

pub shown_from-requires : goal.shown_from-requires
shown_from-requires c = reply_scanned c.args.self.now.rules (learns_on c.args.self.now.side) asked copied c.args._phase c.args._note c.args.reply.now c.requires

pub returns-clause-from : goal.returns-clause-from
returns-clause-from c = shown_is c.args.reply.now c.shown_from.result c.shown_from.ensures.from
