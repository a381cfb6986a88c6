-- What a session waited for before a step.
use Rattle.std.specs.Prelude.{ℕ, if◌then◌else◌}
use Rattle.rd_rules.specs.Wait.{Wait, same_wait}
use Rattle.rd_core.specs.declared.waits.WaitedFor.{WaitedFor}

abbrev pub awaited_wait : WaitedFor → Wait
awaited_wait a = record { which = a.which; number = a.count }

-- a wait that goes on has begun when it had; another begins now
abbrev pub began_since : Wait → Wait → ℕ → ℕ → ℕ
began_since before now began at = if same_wait before now then began else at
