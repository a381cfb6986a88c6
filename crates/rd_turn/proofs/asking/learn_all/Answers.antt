use Rattle.std.proofs.Common.{◌≡◌, ◌+◌, [], ◌∷◌, ◌++◌, take, refl, sym, ap, ◌∙◌, subst, arith, le_refl}
use Rattle.std.proofs.lemmas.Result.{err_from_is_err_and}
use Rattle.rd_turn.specs.Books.{Tells, calls_of, told_calls}
use Rattle.rd_turn.proofs.Asked.{calls_none, learn_more, take_snoc, take_prefix, take_whole}
use Rattle.rd_turn.proofs.asking.learn_all.Goals as goal

pub loop-place-init : goal.loop-place-init
loop-place-init g c = sym (calls_none (g.B.TokenBook.tells c.args.book.now))

pub loop-place-preserved : goal.loop-place-preserved
loop-place-preserved g c =
    let rows = c.args.rows.now in
    let place = c.loop-place.place in
    let book = g.B.TokenBook.tells c.args.book.now in
    learn_more book (g.B.TokenBook.tells c.loop-place.book) (g.B.TokenBook.tells c.learn.new.self) (take place rows) c.at.result.now c.loop-place.invariant c.in_ok-learn.ensures.told.ok
    ∙ ap (λ xs. told_calls book (calls_of [] xs)) (take_snoc rows place c.at.result.now (omega (arith, c.loop-place-test.true, c.len-place-end.ensures)) c.at.ensures)

pub returns-in_err-learn : goal.returns-in_err-learn
returns-in_err-learn g c =
    let p = err_from_is_err_and c.from_residual.result c.from_residual.ensures.1 in
    let rows = c.args.rows.now in
    record {
      tells = subst (λ x. Tells rows (g.B.TokenBook.tells c.args.book.now) (g.B.TokenBook.tells c.learn.new.self) x) (sym p.1) (record {
        learnt = take c.loop-place.place rows;
        calls = c.in_err-learn.ensures.told.err ∙ c.loop-place.invariant;
        ok = tt;
        err = take_prefix c.loop-place.place rows;
      });
    }

pub returns : goal.returns
returns g c =
    let rows = c.args.rows.now in
    record {
      tells = record {
        learnt = take c.loop-place.place rows;
        calls = c.loop-place.invariant;
        ok = take_whole c.loop-place.place rows (omega (arith, c.loop-place-test.false, c.len-place-end.ensures));
        err = tt;
      };
    }
