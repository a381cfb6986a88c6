-- What contracts see of clocks and stoppers in memory.
use Rattle.std.specs.Prelude.{ℕ, ◌-◌, ◌++◌, Bool, List, length, get_or, take, replicate, nat_lt, if◌then◌else◌, Option, Some}
use Rattle.rd_base.specs.Clocks.{Reach, ClockTold, StopperTold}
use Rattle.rd_base.specs.declared.mem_clock.Reached.{Reached}

-- the last of these, or 0
abbrev pub last_answer : List ℕ → ℕ
last_answer answers = get_or answers (length answers - 1) 0

-- the answer to the call of this number, from 0
abbrev pub answer_of : List ℕ → ℕ → ℕ
answer_of answers call = if nat_lt call (length answers) then get_or answers call 0 else last_answer answers

-- so many answers of a clock that repeats its last one
abbrev pub first_answers : List ℕ → ℕ → List ℕ
first_answers answers count = take count answers ++ replicate (count - length answers) (last_answer answers)

abbrev pub seen_reach : Reached → Reach
seen_reach r = record { low = r.low; high = r.high }

-- the answers that it was made with, how often it was asked, how far its answers reach, and its span
pub record MemClockView : Type 0 where
  pub answers : List ℕ
  pub asked : ℕ
  pub reach : Option Reach
  pub span : ℕ

abbrev pub clock_tells : MemClockView → ClockTold
clock_tells c = record { answers = Some (first_answers c.answers c.asked); reach = c.reach; span = c.span }

-- the answers that it was made with, how often it was asked, and how often it said yes
pub record MemStopperView : Type 0 where
  pub answers : List Bool
  pub asked : ℕ
  pub yeses : ℕ

abbrev pub stopper_tells : MemStopperView → StopperTold
stopper_tells s = record { asked = Some s.asked; yeses = s.yeses }
