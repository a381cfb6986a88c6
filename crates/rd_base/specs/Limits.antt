-- The ranges of a session's limits.
use Rattle.std.specs.Prelude.{ℕ, ◌≤◌}
use Rattle.rd_base.specs.declared.values.Limits.{Limits}
use Rattle.rd_base.specs.declared.values.MaskLimits.{MaskLimits}

-- 0 to 64 masked places, of tokens of 1 to 128 bytes
pub record AreMaskLimits (most : MaskLimits) : Type 0 where
  pub places : most.places ≤ 64
  pub least_bytes : 1 ≤ most.bytes
  pub bytes : most.bytes ≤ 128

-- a time that a session may wait, in milliseconds: at most a day
pub record IsWaitLimit (ms : ℕ) : Type 0 where
  pub least : 1 ≤ ms
  pub most : ms ≤ 86400000

pub record AreLimits (limits : Limits) : Type 0 where
  pub three : 3 ≤ limits.copies
  pub eight : limits.copies ≤ 8
  pub least_unit : 1024 ≤ limits.unit_max
  pub most_unit : limits.unit_max ≤ 8388608
  pub least_exchanges : 1 ≤ limits.exchanges_max
  pub most_exchanges : limits.exchanges_max ≤ 65536
  pub idle : IsWaitLimit limits.idle_ms
  pub request : IsWaitLimit limits.request_ms
  pub gather : IsWaitLimit limits.gather_ms
  pub reply : IsWaitLimit limits.reply_ms
  pub mask : AreMaskLimits limits.mask
