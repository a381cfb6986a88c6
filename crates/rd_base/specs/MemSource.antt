-- What contracts see of a source in memory.
use Rattle.std.specs.Prelude.{◌≡◌, ℕ, ◌≤◌, ◌+◌, ◌-◌, ◌^◌, ◌⊎◌, List, [], ◌∷◌, ◌++◌, length, replicate, All, slice_index_or, Some}
use Rattle.rd_base.specs.Sources.{SourceTold}
use Rattle.rd_base.specs.Outside.{Mark}
use Rattle.rd_base.specs.declared.source.Give.{Give}
use Rattle.rd_base.specs.declared.source.Give.TheVariants.{Piece, End, Failed, NoMemory}
use Rattle.rd_base.specs.declared.mem_source.Answer.{Answer}
use Rattle.rd_base.specs.declared.mem_source.Answer.TheVariants as answer
use Rattle.rd_base.specs.declared.mem_source.Logged.{Logged}

-- its mark, its count of faults, its answers so far, and the pieces that are left
pub record MemSourceView : Type 0 where
  pub mark : Mark
  pub faults : ℕ
  pub given : List Give
  pub left : List (List ℕ)

-- what it tells
abbrev pub mem_tells : MemSourceView → SourceTold
mem_tells s = record { mark = s.mark; faults = s.faults; given = Some s.given }

-- a piece has 1 to 16,384 bytes
abbrev pub IsPiece : List ℕ → Type 0
IsPiece piece = (1 ≤ length piece) × (length piece ≤ 16384)

-- a piece is the first that was left; one that finds no memory is used up; End comes where none is left, or
-- past 2^64-1 answers
abbrev pub Takes : MemSourceView → Give → List (List ℕ) → Type 0
Takes before (Piece bytes) left = before.left ≡ bytes ∷ left
Takes before NoMemory left = (piece : List ℕ) × (before.left ≡ piece ∷ left)
Takes before Failed left = left ≡ before.left
Takes before End left = (left ≡ before.left) × ((left ≡ []) ⊎ (length before.given ≡ 2 ^ 64 - 1))

-- the answer that a log's entry stands for
abbrev pub logged_give : List (List ℕ) → Answer → Give
logged_give pieces (answer.Piece place) = Piece (slice_index_or pieces place [])
logged_give pieces answer.Failed = Failed
logged_give pieces answer.NoMemory = NoMemory

-- the answers that a log stands for, in order
abbrev pub logged_gives : List (List ℕ) → List Logged → List Give
logged_gives pieces [] = []
logged_gives pieces (entry ∷ log) =
    replicate entry.ends End ++ logged_give pieces entry.answer ∷ logged_gives pieces log

-- and then so many Ends
abbrev pub given_by : List (List ℕ) → List Logged → ℕ → List Give
given_by pieces log ends = logged_gives pieces log ++ replicate ends End

-- the log has room for every answer but End that may still come, and the calls are counted
pub record KeepsLog (pieces : List (List ℕ)) (next failing len capacity : ℕ) (log : List Logged) (ends calls : ℕ) : Type 0 where
  pub pieces_are : All IsPiece pieces
  pub within : next ≤ length pieces
  pub room : len + (length pieces - next) + failing ≤ capacity
  pub counted : calls ≡ length (given_by pieces log ends)
  pub most : calls ≤ 2 ^ 64 - 1
