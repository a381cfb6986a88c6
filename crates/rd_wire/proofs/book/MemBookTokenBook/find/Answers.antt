use Rattle.std.proofs.Common.{ap, sym, ◌∙◌, ◌++◌, [], ◌∷◌, Some}
use Rattle.rd_base.specs.Swap.{shows}
use Rattle.rd_token_map.specs.BookCalls.{Found}
use Rattle.rd_wire.specs.Books.{MemBookView}
use Rattle.rd_wire.specs.declared.book.Call.TheVariants as call
use Rattle.rd_wire.proofs.Books.{found_passes, told_more}
use Rattle.rd_wire.proofs.book.MemBookTokenBook.find.Goals as goal

pub returns-clause-finds : goal.returns-clause-finds
returns-clause-finds g c =
    let answer = c.row_of.ensures ∙ c.find-2.ensures in
    let kept = c.kept_word-kept.result in
    let told = c.row_of-told.result in
    record {
      shown = λ row e. found_passes (shows c.args.word.now) c.self.inside.rows row (sym answer ∙ e);
      told =
          ap Some (
          told_more c.self.inside.calls.items c.push_reserved.new.self.items c.args.word.now kept c.row_of.result told
          (c.push_reserved.ensures.items ∙ ap (λ calls. calls ++ call.Found kept told ∷ []) c.make_room.ensures.same)
          c.kept_word-kept.ensures (c.row_of-told.ensures ∙ c.find.ensures ∙ sym answer)
          ∙ ap (λ (b : MemBookView). b.calls ++ Found c.args.word.now c.row_of.result ∷ []) c.self.view_is
          );
    }
