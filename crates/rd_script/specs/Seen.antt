-- What contracts see of happenings that were read.
use Rattle.std.specs.Prelude.{ℕ, ◌≡◌, ◌<◌, Bool, false, List, [], map, slice_index_or, Option, Some, None, Box}
use Rattle.rd_base.specs.History.{Row, Entry, History, is_over}
use Rattle.rd_base.specs.declared.values.Happening.{Happening}
use Rattle.rd_base.specs.declared.values.Link.{Link}
use Rattle.rd_base.specs.declared.values.What.{What}
use Rattle.rd_base.specs.declared.values.What.TheVariants.{Piece, End, ReadFail, WriteFail, Timer, Stop}
use Rattle.rd_script.specs.Script.{entry_of}
use Rattle.rd_script.specs.declared.step.Step.{Step}

-- the rows that are kept; none where there is no list of them
abbrev pub rows_in : {A : Type 0} → Option (Box (List Row) A) → List Row
rows_in (Some rows) = rows.value
rows_in None = []

-- a happening as it is kept, with the rows told to it
abbrev pub entry_in : Step → Entry
entry_in step = entry_of step.happening (rows_in step.told)

abbrev pub entries_in : List Step → History
entries_in steps = map entry_in steps

-- the happening of an entry, without the rows told to it
abbrev pub happening_in : Entry → Happening
happening_in e = record { at = e.at; what = e.what }

-- the link that reads no more after this
abbrev pub over_link : What → Option Link
over_link (Piece l bytes) = None
over_link (End l) = Some l
over_link (ReadFail l) = Some l
over_link (WriteFail l) = None
over_link Timer = None
over_link Stop = None

-- of each of nine links a flag tells whether it is over
pub record TellsOver (over : List Bool) (h : History) : Type 0 where
  pub tells : (l : ℕ) → l < 9 → slice_index_or over l false ≡ is_over l h
