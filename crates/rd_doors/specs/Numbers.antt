-- The numbers of visits that are out.
use Rattle.std.specs.Prelude.{◌≡◌, ℕ, suc, ◌<◌, List, ◌++◌, length, take, drop}
use Rattle.rd_doors.specs.Visits.{without}

-- the place is there, and without what stands there the numbers are those without the first that is this number
pub record IsFirst (number : ℕ) (numbers : List ℕ) (place : ℕ) : Type 0 where
  pub within : place < length numbers
  pub rest : take place numbers ++ drop (suc place) numbers ≡ without number numbers
