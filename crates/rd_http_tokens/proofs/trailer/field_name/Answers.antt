use Rattle.std.proofs.Common.{◌∙◌, sym}
use Rattle.rd_http_tokens.proofs.Trailing.{name_found}
use Rattle.rd_http_tokens.proofs.trailer.field_name.Goals as goal

pub returns : goal.returns
returns c =
    name_found c.args.names.now c.args.text.now c.args.len c.place_of-end.result c.standing.result c.value_piece-value.result.start c.value_piece-value.result.end c.requires.len c.requires.there c.requires.some
    c.place_of-end.ensures.place c.place_of-end.ensures.within (sym c.is_passed.ensures ∙ c.if-is_passed.false) c.standing.ensures c.value_piece-value.ensures.ordered c.value_piece-value.ensures.within c.value_piece-value.ensures.is
