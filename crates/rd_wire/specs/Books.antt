-- What contracts see of a book in memory.
use Rattle.std.specs.Prelude.{ℕ, List, Option, Some}
use Rattle.rd_base.specs.History.{Row}
use Rattle.rd_token_map.specs.BookCalls.{BookCall, Found, Learned}
use Rattle.rd_wire.specs.declared.book.Call.{Call}
use Rattle.rd_wire.specs.declared.book.Call.TheVariants as call

-- its calls, the rows that it keeps, and how many rows it still learns
pub record MemBookView : Type 0 where
  pub calls : List BookCall
  pub rows : List Row
  pub left : ℕ

abbrev pub call_of : Call → BookCall
call_of (call.Found word row) = Found word row
call_of (call.Learned row) = Learned row

-- what it tells
abbrev pub book_tells : MemBookView → Option (List BookCall)
book_tells b = Some b.calls
