use Rattle.std.proofs.Common.{◌≡◌, ◌≤◌, List, [], length, take}
use Rattle.rd_turn.specs.Books.{Lookup, rows_of, words_of, calls_of, told_calls}
use Rattle.rd_turn.proofs.asking.find_all.Given as goal

abbrev pub invariant-loop-place : goal.invariant-loop-place
invariant-loop-place g l =
    (found : List Lookup)
    × (g.B.TokenBook.tells l.book ≡ told_calls (g.B.TokenBook.tells l.fn.book) (calls_of found []))
    × (length found ≡ l.place)
    × (l.rows ≡ rows_of found)
    × (words_of found ≡ take l.place l.words)
