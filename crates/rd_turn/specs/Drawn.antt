-- The history that a log stands for.
use Rattle.std.specs.Prelude.{ℕ, ◌==◌, if◌then◌else◌, List, [], ◌∷◌, take, drop}
use Rattle.rd_base.specs.History.{History, Entry, Row}
use Rattle.rd_base.specs.declared.values.Link.{Link}
use Rattle.rd_base.specs.declared.values.What.{What}
use Rattle.rd_base.specs.declared.values.What.TheVariants as what
use Rattle.rd_gate.specs.declared.item.Item.{Item}
use Rattle.rd_gate.specs.declared.item.Item.TheVariants.{Piece, End, ReadFail, NoMemory}
use Rattle.rd_turn.specs.declared.log.LogEntry.{LogEntry}
use Rattle.rd_turn.specs.declared.log.Act.{Act}
use Rattle.rd_turn.specs.declared.log.Act.TheVariants.{Took, Timer, Stop, WriteFail}

-- what an item of a link is to its session; want of memory is no happening, and no entry takes it
abbrev pub heard_of : Link → Item → What
heard_of l (Piece bytes) = what.Piece l bytes
heard_of l End = what.End l
heard_of l ReadFail = what.ReadFail l
heard_of l NoMemory = what.End l

abbrev pub first_heard : Link → List Item → What
first_heard l [] = what.End l
first_heard l (x ∷ xs) = heard_of l x

-- what an act is, where these answers of each link were not taken yet
abbrev pub what_of : (ℕ → List Item) → Act → What
what_of left (Took l) = first_heard l (left l.0)
what_of left Timer = what.Timer
what_of left Stop = what.Stop
what_of left (WriteFail l) = what.WriteFail l

-- how many answers of link l an act takes
abbrev pub takes : ℕ → Act → ℕ
takes l (Took m) = if m.0 == l then 1 else 0
takes l Timer = 0
takes l Stop = 0
takes l (WriteFail m) = 0

abbrev pub left_by : Act → (ℕ → List Item) → ℕ → List Item
left_by act left l = drop (takes l act) (left l)

abbrev pub entry_by : (ℕ → List Item) → List Row → LogEntry → Entry
entry_by left told e = record { at = e.at; what = what_of left e.act; told = take e.told told }

-- one entry for each of the log's: the j-th Took of a link is the j-th answer of its source, and each entry is told so many
-- rows from the front of those that are left
abbrev pub draw : List LogEntry → (ℕ → List Item) → List Row → History
draw [] left told = []
draw (e ∷ log) left told = entry_by left told e ∷ draw log (left_by e.act left) (drop e.told told)
