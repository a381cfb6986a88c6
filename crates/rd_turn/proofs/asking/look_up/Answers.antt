use Rattle.std.proofs.Common.{◌≡◌, ◌≤◌, [], ◌++◌, ◌∷◌, Ok, List, length, take, sym, ap, ◌∙◌, subst, refl, arith, le_refl}
use Rattle.std.proofs.lemmas.Result.{err_from_is_err_and}
use Rattle.rd_core.specs.Standing.{IsAt}
use Rattle.rd_turn.specs.Books.{LooksUp}
use Rattle.rd_turn.specs.Turns.{rules_by}
use Rattle.rd_turn.proofs.Asked.{calls_none, nil_prefix, looked_up}
use Rattle.rd_turn.proofs.asking.look_up.Goals as goal

pub returns-in_err-words : goal.returns-in_err-words
returns-in_err-words g c =
    let p = err_from_is_err_and c.from_residual.result c.from_residual.ensures.1 in
    let r = rules_by g.D.Dialect.grammar c.args.session.now in
    let book = g.B.TokenBook.tells c.args.book.now in
    record {
      looks = subst (λ y. LooksUp r (IsAt r c.args.session.now) c.args.happening.now book book y) (sym p.1) (record {
        found = [];
        calls = sym (calls_none book);
        few = omega arith;
        rows = tt;
        ok = tt;
        err = λ h well at. nil_prefix _;
      });
    }

pub returns : goal.returns
returns g c =
    let r = rules_by g.D.Dialect.grammar c.args.session.now in
    record {
      looks = looked_up r (IsAt r c.args.session.now) c.args.happening.now (g.B.TokenBook.tells c.args.book.now) (g.B.TokenBook.tells c.find_all.new.book) c.in_ok-words.words c.find_all.result
          c.in_ok-words.ensures c.find_all.ensures.finds;
    }
