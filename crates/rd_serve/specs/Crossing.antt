-- What may cross to a thread that outlives the call.
use mathlib.Core.List.{Mem}
use denote.RattleType.{RattleType}
use Rattle.std.specs.Prelude.{ℕ, []}
use Rattle.std.specs.Thread.{IsSend}

-- values of this type say the same to every thread, and borrow nothing
abbrev pub Crosses : RattleType → Type 0
Crosses R = ((a : ℕ) → Mem a R.lives → Mem a []) × IsSend R
