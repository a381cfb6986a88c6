use Rattle.std.proofs.Common.{◌≡◌, [], take}
use Rattle.rd_turn.specs.Books.{calls_of, told_calls}
use Rattle.rd_turn.proofs.asking.learn_all.Given as goal

abbrev pub invariant-loop-place : goal.invariant-loop-place
invariant-loop-place g l = g.B.TokenBook.tells l.book ≡ told_calls (g.B.TokenBook.tells l.fn.book) (calls_of [] (take l.place l.rows))
