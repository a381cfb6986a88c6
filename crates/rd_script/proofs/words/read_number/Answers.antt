use Rattle.std.proofs.Common.{◌≡◌, sym, ◌∙◌}
use Rattle.rd_script.proofs.Numbers.{parsed, numeral_utf8, is_text, same_text}
use Rattle.rd_script.proofs.words.read_number.Goals as goal

pub returns-in_err-ok : goal.returns-in_err-ok
returns-in_err-ok c =
    let is = sym c.is_numeral.ensures ∙ c.if-not-is_numeral.false in
    absurd (is_text c.args.word.now c.from_utf8.result _ (sym c.ok.ensures.value ∙ c.in_err-ok.was) c.from_utf8.ensures.cases (numeral_utf8 c.args.word.now is))

pub returns : goal.returns
returns c =
    let is = sym c.is_numeral.ensures ∙ c.if-not-is_numeral.false in
    let same : c.in_ok-ok.field-0.now ≡ c.args.word.now = same_text c.args.word.now c.from_utf8.result c.in_ok-ok.field-0 _ c.in_ok-ok.ensures.value c.from_utf8.ensures.cases in
    c.ok-2.ensures.value ∙ parsed c.args.word.now c.parse.result is (rw same at c.parse.ensures.value.0)
