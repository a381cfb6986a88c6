-- Histories of a session, and what they say of each link.
use Rattle.std.specs.Prelude.{ℕ, Bool, true, false, List, [], ◌∷◌, ◌++◌, length, Option, Some, None, if◌then◌else◌, ◌==◌, ◌&&◌, ◌||◌, not, nat_le, max, fold}
use Rattle.std.specs.List.{list_any, flat_map}
use Rattle.rd_base.specs.declared.values.What.{What}
use Rattle.rd_base.specs.declared.values.What.TheVariants.{Piece, End, ReadFail, WriteFail, Timer, Stop}

-- a row has a text for each copy, the one that was shown first
abbrev pub Row : Type 0
Row = List (List ℕ)

-- a happening, with its stamp and the rows told to its step
pub record Entry : Type 0 where
  pub at : ℕ
  pub what : What
  pub told : List Row

abbrev pub History : Type 0
History = List Entry

-- the bytes of a link in a happening
abbrev pub piece_of : ℕ → What → List ℕ
piece_of l (Piece m bytes) = if l == m.0 then bytes else []
piece_of l (End m) = []
piece_of l (ReadFail m) = []
piece_of l (WriteFail m) = []
piece_of l Timer = []
piece_of l Stop = []

abbrev pub ends : ℕ → What → Bool
ends l (Piece m bytes) = false
ends l (End m) = l == m.0
ends l (ReadFail m) = false
ends l (WriteFail m) = false
ends l Timer = false
ends l Stop = false

abbrev pub read_fails : ℕ → What → Bool
read_fails l (Piece m bytes) = false
read_fails l (End m) = false
read_fails l (ReadFail m) = l == m.0
read_fails l (WriteFail m) = false
read_fails l Timer = false
read_fails l Stop = false

abbrev pub write_fails : ℕ → What → Bool
write_fails l (Piece m bytes) = false
write_fails l (End m) = false
write_fails l (ReadFail m) = false
write_fails l (WriteFail m) = l == m.0
write_fails l Timer = false
write_fails l Stop = false

abbrev pub is_stop : What → Bool
is_stop (Piece m bytes) = false
is_stop (End m) = false
is_stop (ReadFail m) = false
is_stop (WriteFail m) = false
is_stop Timer = false
is_stop Stop = true

abbrev pub is_timer : What → Bool
is_timer (Piece m bytes) = false
is_timer (End m) = false
is_timer (ReadFail m) = false
is_timer (WriteFail m) = false
is_timer Timer = true
is_timer Stop = false

-- all pieces of a link, joined
abbrev pub stream : ℕ → History → List ℕ
stream l h = flat_map (λ e. piece_of l e.what) h

abbrev pub ended : ℕ → History → Bool
ended l h = list_any (λ e. ends l e.what) h

-- the greatest stamp, 0 where there is none
abbrev pub moment : History → ℕ
moment h = fold (λ m e. max m e.at) 0 h

-- the link reads no more: it has ended, or a read of it has failed
abbrev pub is_over : ℕ → History → Bool
is_over l h = list_any (λ e. ends l e.what || read_fails l e.what) h

-- this may come after h, where n is the number of copies
abbrev pub may_follow : ℕ → History → What → Bool
may_follow n h (Piece l bytes) = nat_le l.0 n && nat_le 1 (length bytes) && nat_le (length bytes) 16384 && not (is_over l.0 h)
may_follow n h (End l) = nat_le l.0 n && not (is_over l.0 h)
may_follow n h (ReadFail l) = nat_le l.0 n && not (is_over l.0 h)
may_follow n h (WriteFail l) = nat_le l.0 n
may_follow n h Timer = true
may_follow n h Stop = true

abbrev pub follows_well : ℕ → History → History → Bool
follows_well n seen [] = true
follows_well n seen (e ∷ more) = may_follow n seen e.what && follows_well n (seen ++ e ∷ []) more

-- no link is past n, a piece has 1 to 16,384 bytes, and nothing is read of a link after its end or a failed read
abbrev pub is_well_formed : ℕ → History → Bool
is_well_formed n h = follows_well n [] h

-- the shortest prefix of `seen ++ more`, from `seen` on, that passes
abbrev pub shortest_from : (History → Bool) → History → History → Option History
shortest_from test seen [] = if test seen then Some seen else None
shortest_from test seen (e ∷ more) = if test seen then Some seen else shortest_from test (seen ++ e ∷ []) more

-- the shortest prefix that passes
abbrev pub shortest : (History → Bool) → History → Option History
shortest test h = shortest_from test [] h
