use Rattle.std.proofs.Common.{◌∙◌, ◌++◌, ap, sym, arith, drop, ◌∷◌}
use Rattle.std.specs.Prelude.{slice_range}
use Rattle.rd_base.specs.Token.{token}
use Rattle.rd_base.specs.WordCut.{words_of}
use Rattle.rd_base.specs.declared.values.Cursor.{Cursor}
use Rattle.rd_base.specs.declared.values.TokenKind.{TokenKind}
use Rattle.rd_dialect.proofs.Nexts.{next_here, next_on}
use Rattle.rd_toy.proofs.toy.ToyDialect.next_token.Goals as goal

pub returns : goal.returns
returns c =
    let flat = c.args.flat.now in
    let whole = c.args.whole in
    let end = c.cut_at-cut.result.end in
    let text = slice_range flat c.args.cursor.at end in
    let shut = sym c.is_open.ensures ∙ c.if-is_open.false in
    let kind = sym c.kind.ensures in
    let next = sym c.cursor_at.ensures in
    record {
      ordered = omega arith;
      within = omega arith;
      here =
          next_here whole c.cut_at-cut.ensures shut
          ∙ ap (λ (k : TokenKind). token k text ∷ words_of whole (drop end flat)) kind
          ∙ ap (λ (n : Cursor). token c.kind.result text ∷ words_of whole (drop n.at flat)) next;
      on = λ part more then flat_form.
          next_on whole c.cut_at-cut.ensures shut part more then
          ∙ ap (λ (k : TokenKind). token k text ∷ words_of then (drop end (flat ++ more))) kind
          ∙ ap (λ (n : Cursor). token c.kind.result text ∷ words_of then (drop n.at (flat ++ more))) next;
    }
