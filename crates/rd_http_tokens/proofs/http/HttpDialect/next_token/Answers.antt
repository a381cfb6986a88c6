use Rattle.std.proofs.Common.{subst, ap}
use Rattle.rd_base.specs.declared.names.NameRules.{NameRules}
use Rattle.rd_http_tokens.specs.Copied.{asked, copied}
use Rattle.rd_http_tokens.specs.HttpOn.{HttpView, learns_on}
use Rattle.rd_http_tokens.specs.Steps.{IsFoundIn}
use Rattle.rd_http_tokens.proofs.Nexts.{next_is}
use Rattle.rd_http_tokens.proofs.http.HttpDialect.next_token.Goals as goal

pub returns-in-Some : goal.returns-in-Some
returns-in-Some c =
    let found =
    subst (λ (rules : NameRules). IsFoundIn rules c.args.part c.args.whole c.args.flat.now c.args.cursor.at c.of.result c.in-Some.found) (ap (λ (h : HttpView). h.rules) c.self.view_is) c.in-Some.ensures in
    next_is c.args.self.now.rules (learns_on c.args.self.now.side) asked copied c.args.part c.args._phase c.args._note c.args.flat.now c.args.whole c.args.cursor c.cursor.result c.of.result c.span.result c.in-Some.found
    c.of.ensures found c.span.ensures c.cursor.ensures
