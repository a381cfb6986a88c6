use Rattle.std.proofs.Common.{◌≡◌, ◌+◌, ◌<◌, ◌≤◌, ℕ, [], ◌∷◌, ◌++◌, List, length, take, None, Some, refl, sym, ap, ◌∙◌, subst, arith}
use Rattle.std.proofs.lemmas.Result.{err_from_is_err_and}
use Rattle.rd_base.specs.Outside.{IsPrefixOf}
use Rattle.rd_turn.specs.Books.{FindsAll, Lookup}
use Rattle.rd_turn.proofs.Asked.{calls_none, found_more, words_more, rows_more, rows_same, length_snoc, take_prefix, take_least, least_end}
use Rattle.rd_turn.proofs.asking.find_all.Goals as goal
use Rattle.rd_turn.proofs.asking.find_all.Goals.{in-Some+in_ok-push-in-Some, in-None}

pub loop-place-init : goal.loop-place-init
loop-place-init g c = ([], sym (calls_none (g.B.TokenBook.tells c.args.book.now)), refl, c.new-rows.ensures, refl)

pub returns-in_err-push-in-Some : goal.returns-in_err-push-in-Some
returns-in_err-push-in-Some g c =
    let p = err_from_is_err_and c.from_residual.result c.from_residual.ensures.1 in
    let words = c.args.words.now in
    let place : ℕ = c.loop-place.place in
    let x = c.loop-place.invariant in
    let lt : place < length words = omega (arith, c.loop-place-test.true, c.min-place-end.ensures, c.len.ensures) in
    let found : List Lookup = x.0 ++ record { word = c.at.result.now; row = Some c.in-Some.row } ∷ [] in
    let more = words_more x.0 c.at.result.now (Some c.in-Some.row) words place lt c.at.ensures x.4 in
    let size = length_snoc x.0 (record { word = c.at.result.now; row = Some c.in-Some.row }) in
    let so_far = x.2 in
    record {
      finds = subst (λ y. FindsAll words (g.B.TokenBook.tells c.args.book.now) (g.B.TokenBook.tells c.find.new.self) y) (sym p.1) (record {
        found = found;
        calls = found_more (g.B.TokenBook.tells c.args.book.now) (g.B.TokenBook.tells c.loop-place.book) (g.B.TokenBook.tells c.find.new.self) x.0 c.at.result.now (Some c.in-Some.row) x.1 c.in-Some.ensures.told;
        few = omega (arith, c.loop-place-test.true, c.min-place-end.ensures, size, so_far);
        ok = tt;
        err = subst (λ ws. IsPrefixOf ws words) (sym more) (take_prefix (place + 1) words);
      });
    }

pub loop-place-preserved : goal.loop-place-preserved
loop-place-preserved g c =
    let words = c.args.words.now in
    let place : ℕ = c.loop-place.place in
    let x = c.loop-place.invariant in
    let so_far = x.2 in
    let lt : place < length words = omega (arith, c.loop-place-test.true, c.min-place-end.ensures, c.len.ensures) in
    elim c.match-find.branch [
      | in-Some+in_ok-push-in-Some w ↦
          let l : Lookup = record { word = c.at.result.now; row = Some w.in-Some.row } in
          let size = length_snoc x.0 l in (
            x.0 ++ l ∷ [],
            found_more (g.B.TokenBook.tells c.args.book.now) (g.B.TokenBook.tells c.loop-place.book) (g.B.TokenBook.tells c.find.new.self) x.0 c.at.result.now (Some w.in-Some.row) x.1 w.in-Some.ensures.told,
            size ∙ ap (λ n. n + 1) so_far,
            w.rows-is ∙ w.in_ok-push-in-Some.ensures.ok ∙ ap (λ rows. rows ++ w.in-Some.row ∷ []) x.3 ∙ sym (rows_more x.0 c.at.result.now w.in-Some.row),
            words_more x.0 c.at.result.now (Some w.in-Some.row) words place lt c.at.ensures x.4,
          )
      | in-None w ↦
          let l : Lookup = record { word = c.at.result.now; row = None } in
          let size = length_snoc x.0 l in (
            x.0 ++ l ∷ [],
            found_more (g.B.TokenBook.tells c.args.book.now) (g.B.TokenBook.tells c.loop-place.book) (g.B.TokenBook.tells c.find.new.self) x.0 c.at.result.now None x.1 w.in-None.ensures.told,
            size ∙ ap (λ n. n + 1) so_far,
            w.rows-is ∙ x.3 ∙ sym (rows_same x.0 c.at.result.now),
            words_more x.0 c.at.result.now None words place lt c.at.ensures x.4,
          )
    ]

pub returns : goal.returns
returns g c =
    let words = c.args.words.now in
    let place : ℕ = c.loop-place.place in
    let x = c.loop-place.invariant in
    let so_far = x.2 in
    let few : place ≤ 4096 = omega (arith, c.loop-place.auto.place-end, c.min-place-end.ensures) in
    let within : place ≤ length words = omega (arith, c.loop-place.auto.place-end, c.min-place-end.ensures, c.len.ensures) in
    record {
      finds = record {
        found = x.0;
        calls = x.1;
        few = omega (arith, few, so_far);
        ok = (x.3, x.4 ∙ take_least 4096 words place within few (least_end (length words) 4096 place (omega (arith, c.loop-place-test.false, c.min-place-end.ensures, c.len.ensures))));
        err = tt;
      };
    }
