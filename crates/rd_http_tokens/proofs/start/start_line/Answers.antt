use Rattle.std.proofs.Common.{subst, sym}
use Rattle.rd_base.specs.declared.values.Part.{Part}
use Rattle.rd_http_tokens.specs.Tokens.{start_left}
use Rattle.rd_http_tokens.specs.Steps.{IsFound}
use Rattle.rd_http_tokens.proofs.start.start_line.Goals as goal

pub returns-in-Request : goal.returns-in-Request
returns-in-Request c = λ names whole.
    subst (λ (part : Part). IsFound names (λ all t. start_left names part all t) whole c.args.text.now c.method.result) (sym c.in-Request.is) (c.method.ensures names whole)

pub returns-in-Reply : goal.returns-in-Reply
returns-in-Reply c = λ names whole.
    subst (λ (part : Part). IsFound names (λ all t. start_left names part all t) whole c.args.text.now c.status.result) (sym c.in-Reply.is)
    (c.status.ensures c.args.text.now c.requires.len c.requires.there names whole)
