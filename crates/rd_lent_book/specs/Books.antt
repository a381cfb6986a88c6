-- The book after a list of learns.
use Rattle.std.specs.Prelude.{ℕ, List, [], map, fold, Option, find}
use Rattle.rd_base.specs.History.{Row}
use Rattle.rd_base.specs.OwnRows.{learn_row}
use Rattle.rd_base.specs.Swap.{shows}
use Rattle.rd_history.specs.declared.learn.Learn.{Learn}

-- its rows, the newest first, one per shown word, the first 4,096
abbrev pub book_after : List Learn → List Row
book_after learns = fold (learn_row 4096) [] (map (λ learn. learn.row) learns)

-- the first of its rows that shows the word
abbrev pub found : List ℕ → List Learn → Option Row
found word learns = find (shows word) (book_after learns)
