-- What spawners tell, as plain data.
use Rattle.std.specs.Prelude.{◌≡◌, ℕ, Bool, true, false, Option, option_map, if◌then◌else◌}
use Rattle.rd_base.specs.Counts.{counted, sum_counted}
use Rattle.rd_base.specs.Outside.{Rose}

-- how many starts it was asked for, where it tells that, and its count of refused ones
pub record SpawnerTold : Type 0 where
  pub asked : Option ℕ
  pub refusals : ℕ

-- a spawner that was asked for a start, and whether there was one
pub record Starts (started : Bool) (before after : SpawnerTold) : Type 0 where
  pub asked : after.asked ≡ option_map counted before.asked
  pub refusals : after.refusals ≡ (if started then before.refusals else counted before.refusals)

-- a spawner whose last start came to nothing
pub record Refuses (before after : SpawnerTold) : Type 0 where
  pub asked : after.asked ≡ before.asked
  pub refusals : after.refusals ≡ counted before.refusals

-- a spawner with the refusals of one that is no longer used
pub record TakesRefusals (other before after : SpawnerTold) : Type 0 where
  pub asked : after.asked ≡ before.asked
  pub refusals : after.refusals ≡ sum_counted before.refusals other.refusals

-- a further start of several: it isn't tried where an earlier one was refused
abbrev pub StartsNext : Bool → Bool → SpawnerTold → SpawnerTold → Type 0
StartsNext true started before after = Starts started before after
StartsNext false started before after = (started ≡ false) × (after ≡ before)

-- the counts of refused starts around several: it stands still where all were started, and else it rose
abbrev pub AllStarted : Bool → ℕ → ℕ → Type 0
AllStarted true before after = after ≡ before
AllStarted false before after = Rose before after
