-- What contracts see of a spawner in memory.
use Rattle.std.specs.Prelude.{ℕ, List, Some}
use Rattle.rd_start.specs.Spawners.{SpawnerTold}

-- the numbers of the starts that it refuses, how many it was asked for, and how many were refused
pub record MemSpawnerView : Type 0 where
  pub refused : List ℕ
  pub asked : ℕ
  pub refusals : ℕ

abbrev pub spawner_tells : MemSpawnerView → SpawnerTold
spawner_tells s = record { asked = Some s.asked; refusals = s.refusals }
