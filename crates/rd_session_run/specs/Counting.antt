-- What is counted while a session runs.
use Rattle.std.specs.Prelude.{ℕ, ◌≡◌, ◌≤◌, ◌*◌, ◌^◌, Bool, if◌then◌else◌, length}
use Rattle.rd_base.specs.History.{History}
use Rattle.rd_base.specs.declared.sends.Send.{Send}
use Rattle.rd_rules.specs.Exchange.{Rules}
use Rattle.rd_rules.specs.Sent.{taken, sent}
use Rattle.rd_session_run.specs.Summaries.{sent_to_copies}
use Rattle.rd_session_run.specs.declared.summary.Counts.{Counts}

-- the bytes of a send to a link that passes a test
abbrev pub bytes_where : (ℕ → Bool) → Send → ℕ
bytes_where test s = if test s.link.0 then length s.bytes else 0

-- the counts of a history
pub record AreCounts (r : Rules) (h : History) (c : Counts) : Type 0 where
  pub events : c.events ≡ length (taken r h)
  pub to_client : c.to_client ≡ length (sent r r.limits.copies h)
  pub to_instances : c.to_instances ≡ sent_to_copies r h

-- a step counts one event at most, and 9 sends of fewer than 2^64 bytes each
pub record AreSmall (steps : ℕ) (c : Counts) : Type 0 where
  pub events : c.events ≤ steps
  pub to_client : c.to_client ≤ steps * (9 * 2 ^ 64)
  pub to_instances : c.to_instances ≤ steps * (9 * 2 ^ 64)
