-- What sources tell, as plain data.
use Rattle.std.specs.Prelude.{◌≡◌, ℕ, ◌≤◌, List, length, Option}
use Rattle.rd_base.specs.Counts.{told_with}
use Rattle.rd_base.specs.Outside.{Mark, Rose}
use Rattle.rd_base.specs.declared.source.Give.{Give}
use Rattle.rd_base.specs.declared.source.Give.TheVariants.{Piece, End, Failed, NoMemory}

-- its mark, its count of faults and, where it tells them, its answers so far
pub record SourceTold : Type 0 where
  pub mark : Mark
  pub faults : ℕ
  pub given : Option (List Give)

-- a piece has at least one byte, and no more than these
abbrev pub IsGive : ℕ → Give → Type 0
IsGive most (Piece bytes) = (1 ≤ length bytes) × (length bytes ≤ most)
IsGive most End = Unit {0}
IsGive most Failed = Unit {0}
IsGive most NoMemory = Unit {0}

-- a call of a source: its answer, and what it tells before and behind it
pub record Gives (most : ℕ) (give : Give) (before after : SourceTold) : Type 0 where
  pub piece : IsGive most give
  pub given : after.given ≡ told_with before.given give
  pub failed : give ≡ Failed → Rose before.faults after.faults
  pub faults : before.faults ≤ after.faults
  pub mark : after.mark ≡ before.mark
