-- What readers hand on.
use Rattle.std.specs.Prelude.{◌≡◌, ◌≤◌, Bool, true, false, List, [], ◌∷◌, length}
use Rattle.rd_base.specs.declared.source.Give.{Give}
use Rattle.rd_base.specs.declared.source.Give.TheVariants as give
use Rattle.rd_gate.specs.declared.item.Item.{Item}
use Rattle.rd_gate.specs.declared.item.Item.TheVariants.{Piece, End, ReadFail, NoMemory}

abbrev pub is_piece : Item → Bool
is_piece (Piece bytes) = true
is_piece End = false
is_piece ReadFail = false
is_piece NoMemory = false

-- an answer of a source, as its reader hands it on
abbrev pub item_of : Give → Item
item_of (give.Piece bytes) = Piece bytes
item_of give.End = End
item_of give.Failed = ReadFail
item_of give.NoMemory = NoMemory

-- a piece has 1 to 16,384 bytes
abbrev pub IsFit : Item → Type 0
IsFit (Piece bytes) = (1 ≤ length bytes) × (length bytes ≤ 16384)
IsFit End = Unit {0}
IsFit ReadFail = Unit {0}
IsFit NoMemory = Unit {0}

-- fit pieces, and behind them at most one item that is none
abbrev pub IsInTurn : List Item → Type 0
IsInTurn [] = Unit {0}
IsInTurn (x ∷ []) = IsFit x
IsInTurn (x ∷ y ∷ xs) = IsFit x × (is_piece x ≡ true) × IsInTurn (y ∷ xs)
