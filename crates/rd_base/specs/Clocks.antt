-- What clocks and stoppers tell, as plain data.
use Rattle.std.specs.Prelude.{◌≡◌, ℕ, ◌-◌, Bool, min, max, List, Option, Some, None, option_map, if◌then◌else◌}
use Rattle.rd_base.specs.Counts.{counted, sum_counted, told_with}

-- the least and the greatest answer
pub record Reach : Type 0 where
  pub low : ℕ
  pub high : ℕ

abbrev pub reach_with : Option Reach → ℕ → Reach
reach_with None x = record { low = x; high = x }
reach_with (Some r) x = record { low = min r.low x; high = max r.high x }

abbrev pub width : Reach → ℕ
width r = r.high - r.low

-- its answers so far, where it tells them, how far they reach, and its span: the greatest difference of two of its
-- answers, or of two answers of a clock that was joined in
pub record ClockTold : Type 0 where
  pub answers : Option (List ℕ)
  pub reach : Option Reach
  pub span : ℕ

-- a clock that was asked, with this answer
pub record Ticks (answer : ℕ) (before after : ClockTold) : Type 0 where
  pub answers : after.answers ≡ told_with before.answers answer
  pub reach : after.reach ≡ Some (reach_with before.reach answer)
  pub span : after.span ≡ max before.span (width (reach_with before.reach answer))

-- a clock that hasn't been asked
pub record IsUnasked (clock : ClockTold) : Type 0 where
  pub reach : clock.reach ≡ None
  pub span : clock.span ≡ 0

-- a clock with the span of one that is no longer used
pub record TakesSpan (other before after : ClockTold) : Type 0 where
  pub answers : after.answers ≡ before.answers
  pub reach : after.reach ≡ before.reach
  pub span : after.span ≡ max before.span other.span

-- how often it was asked, where it tells that, and its count of yeses
pub record StopperTold : Type 0 where
  pub asked : Option ℕ
  pub yeses : ℕ

-- a stopper that was asked, with this answer
pub record Asks (answer : Bool) (before after : StopperTold) : Type 0 where
  pub asked : after.asked ≡ option_map counted before.asked
  pub yeses : after.yeses ≡ (if answer then counted before.yeses else before.yeses)

-- a stopper with the yeses of one that is no longer used
pub record TakesYeses (other before after : StopperTold) : Type 0 where
  pub asked : after.asked ≡ before.asked
  pub yeses : after.yeses ≡ sum_counted before.yeses other.yeses
