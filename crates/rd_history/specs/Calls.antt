-- The calls of a seat, as a book of rows tells of them.
use Rattle.rd_token_map.specs.BookCalls as told
use Rattle.rd_history.specs.declared.calls.Call.{Call}
use Rattle.rd_history.specs.declared.calls.Call.TheVariants.{Found, Learned}

abbrev pub call_of : Call → told.BookCall
call_of (Found word answer) = told.Found word answer
call_of (Learned row) = told.Learned row
