use Rattle.std.proofs.Common.{◌∷◌, ◌∙◌, ap, ap₂, not, arith}
use Rattle.std.specs.Prelude.{filter}
use Rattle.rd_base.specs.OwnRows.{learn_row}
use Rattle.rd_base.specs.Swap.{shows}
use Rattle.rd_base.proofs.SharedRows.{put_is}
use Rattle.rd_shared_book.proofs.Learning.{learn_row-made}
use Rattle.rd_shared_book.proofs.book_rows.BookRows.learn.Goals as goal

pub returns-clause-ok : goal.returns-clause-ok
returns-clause-ok c =
    let row = c.in_ok-row.row in
    let room = c.in_ok-reserve.ensures.ok in
    let put = put_is c.insert-is_put.result c.insert-is_put.new.self.items (row ∷ c.truncate.new.self.items) c.truncate.new.self.items
    (c.insert-is_put.ensures.succeeds (omega (arith, room, c.drop_shown.ensures.room, c.drop_shown.ensures.fewer, c.truncate.ensures.len, c.truncate.ensures.capacity))) c.insert-is_put.ensures.items in
    learn_row-made row c.self.inside.rows.items c.drop_shown.new.rows.items c.truncate.new.self.items c.insert-is_put.new.self.items c.word.result.now
    c.word.ensures (c.drop_shown.ensures.kept ∙ ap (filter (λ r. not (shows c.word.result.now r))) c.reserve.ensures.items) c.truncate.ensures.items put
    ∙ ap₂ (learn_row 4096) c.self.view_is c.in_ok-row.ensures
