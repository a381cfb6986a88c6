-- What is true of all that a session keeps.
use Rattle.std.specs.Prelude.{◌≡◌, ℕ, Bool, false, nat_lt, ◌≤◌, ◌<◌, ◌+◌, ◌*◌, length, Option, Some, None, option_map}
use Rattle.std.specs.List.{All}
use Rattle.rd_base.specs.declared.values.What.{What}
use Rattle.rd_base.specs.declared.values.What.TheVariants.{Piece, End, ReadFail, WriteFail, Timer, Stop}
use Rattle.rd_base.specs.declared.values.Ending.{Ending}
use Rattle.rd_base.specs.Limits.{AreLimits}
use Rattle.rd_dialect.specs.Grammar.{Grammar}
use Rattle.rd_rules.specs.Exchange as rule
use Rattle.rd_rules.specs.Trouble.{open_asking}
use Rattle.rd_reading.specs.declared.setup.Setup.{Setup}
use Rattle.rd_core.specs.declared.stage.Stage.{Stage}
use Rattle.rd_reading.specs.Seen.{seen_request, seen_front}
use Rattle.rd_core.specs.declared.watch.Watch.{Watch}
use Rattle.rd_core.specs.Stages.{HasAsked}
use Rattle.rd_core.specs.Watches.{IsWatch}

-- a piece is longer than any that a link gives
abbrev pub is_oversized : What → Bool
is_oversized (Piece l bytes) = nat_lt 16384 (length bytes)
is_oversized (End l) = false
is_oversized (ReadFail l) = false
is_oversized (WriteFail l) = false
is_oversized Timer = false
is_oversized Stop = false

-- a link has no more open bytes than its limit
abbrev pub Fits : ℕ → rule.Open → Type 0
Fits most o = length o.bytes ≤ most

abbrev pub UnitFits : ℕ → rule.LinkUnit → Type 0
UnitFits most u = length u.bytes ≤ most

-- what is out is what those that ask begin with
abbrev pub IsOut : Grammar → Setup → Stage → Type 0
IsOut g setup stage = (ask : rule.Ask) → option_map seen_request stage.out ≡ Some ask → rule.ask_at g setup.limits.mask (seen_front stage.left) ≡ Some ask

-- a live session has room for one entry more; what is out came to no more than what was open, and a piece
pub record HasMore (setup : Setup) (stage : Stage) (entries : ℕ) : Type 0 where
  pub asking : All (Fits setup.limits.unit_max) (open_asking setup.side stage.left.asking.opens.items (option_map seen_request stage.out))
  pub units : (ask : rule.Ask) → option_map seen_request stage.out ≡ Some ask → All (UnitFits (setup.limits.unit_max + 16384)) ask.units
  pub answering : All (Fits setup.limits.unit_max) stage.left.answering.opens.items
  pub room : entries < 1048576

pub record IsKept (g : Grammar) (setup : Setup) (stage : Stage) (watch : Watch) (entries sum : ℕ) (ending : Option Ending) : Type 0 where
  pub limits : AreLimits setup.limits
  pub count : stage.count ≤ setup.limits.exchanges_max
  pub asked : HasAsked g stage.out
  pub out : IsOut g setup stage
  pub seen : IsWatch g stage watch
  pub masked : sum ≤ (entries + 1) * 16777216
  pub more : ending ≡ None → HasMore setup stage entries
