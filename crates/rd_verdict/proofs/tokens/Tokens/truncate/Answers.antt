use Rattle.std.proofs.Common.{◌∙◌, ap, sym, map, take}
use Rattle.std.proofs.lemmas.List.{take-map}
use Rattle.rd_base.specs.Token.{token_of}
use Rattle.rd_verdict.proofs.tokens.Tokens.truncate.Goals as goal

pub returns : goal.returns
returns c =
    let cut = map (token_of c.self.inside.flat) in
    ap cut c.truncate.ensures ∙ sym (take-map (token_of c.self.inside.flat) c.args.count c.self.inside.spans) ∙ ap (take c.args.count) c.self.view_is
