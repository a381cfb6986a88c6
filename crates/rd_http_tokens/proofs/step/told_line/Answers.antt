use Rattle.std.proofs.Common.{◌∙◌, sym}
use Rattle.rd_http_tokens.proofs.Told.{mark_found, value_found}
use Rattle.rd_http_tokens.proofs.step.told_line.Goals as goal

pub returns-then-is_blank : goal.returns-then-is_blank
returns-then-is_blank c = λ whole.
    mark_found c.args.names.now c.args.stated whole c.args.text.now c.args.len c.body_kind.result c.requires.len c.requires.there (sym c.is_blank.ensures ∙ c.if-is_blank.true) c.body_kind.ensures

pub returns : goal.returns
returns c = λ whole.
    value_found c.args.names.now c.args.stated c.state-said.result whole c.args.text.now c.args.len c.place_of-name_end.result c.standing.result c.value_piece-value.result.start c.value_piece-value.result.end
    c.requires.len c.requires.there (sym c.is_blank.ensures ∙ c.if-is_blank.false) c.place_of-name_end.ensures.place c.place_of-name_end.ensures.within (sym c.is_passed.ensures ∙ c.if-is_passed.false) c.state-said.ensures c.standing.ensures
    c.value_piece-value.ensures.ordered c.value_piece-value.ensures.within c.value_piece-value.ensures.is
