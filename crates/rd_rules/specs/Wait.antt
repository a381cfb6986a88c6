-- What a session waits for, and until when.
use Rattle.std.specs.Prelude.{ℕ, zero, suc, ◌+◌, ◌-◌, ◌^◌, Bool, true, false, List, length, take, is_some, if◌then◌else◌, ◌==◌, ◌&&◌, not, min}
use Rattle.std.specs.List.{list_any}
use Rattle.rd_base.specs.declared.values.Side.{Side}
use Rattle.rd_base.specs.declared.values.Side.TheVariants.{Incoming, Outgoing}
use Rattle.rd_base.specs.declared.values.Limits.{Limits}
use Rattle.rd_base.specs.declared.values.Which.{Which}
use Rattle.rd_base.specs.declared.values.Which.TheVariants as which
use Rattle.rd_base.specs.Words.{is_empty}
use Rattle.rd_base.specs.History.{History, moment}
use Rattle.rd_rules.specs.Exchange.{Rules, Reading, Open, reading}

abbrev pub same_which : Which → Which → Bool
same_which which.Idle which.Idle = true
same_which which.Idle which.Request = false
same_which which.Idle which.Gather = false
same_which which.Idle which.Reply = false
same_which which.Request which.Idle = false
same_which which.Request which.Request = true
same_which which.Request which.Gather = false
same_which which.Request which.Reply = false
same_which which.Gather which.Idle = false
same_which which.Gather which.Request = false
same_which which.Gather which.Gather = true
same_which which.Gather which.Reply = false
same_which which.Reply which.Idle = false
same_which which.Reply which.Request = false
same_which which.Reply which.Gather = false
same_which which.Reply which.Reply = true

-- what is waited for, and after how many exchanges
pub record Wait : Type 0 where
  pub which : Which
  pub number : ℕ

abbrev pub same_wait : Wait → Wait → Bool
same_wait v w = same_which v.which w.which && v.number == w.number

-- some of these links have open bytes
abbrev pub some_open : List Open → Bool
some_open opens = list_any (λ o. not (is_empty o.bytes)) opens

-- incoming: replies are gathered where an exchange is out; else a request is awaited where the client has begun one.
-- outgoing: the reply is awaited where a call is out; else calls are gathered where some caller has begun one
abbrev pub which_on : Side → Bool → Bool → Which
which_on Incoming true begun = which.Gather
which_on Incoming false true = which.Request
which_on Incoming false false = which.Idle
which_on Outgoing true begun = which.Reply
which_on Outgoing false true = which.Gather
which_on Outgoing false false = which.Idle

abbrev pub wait_of : Side → Reading → Wait
wait_of side now = record { which = which_on side (is_some now.out) (some_open now.left.asking); number = length now.done }

abbrev pub wait : Rules → History → Wait
wait r h = wait_of r.side (reading r h)

abbrev pub limit_of : Limits → Which → ℕ
limit_of limits which.Idle = limits.idle_ms
limit_of limits which.Request = limits.request_ms
limit_of limits which.Gather = limits.gather_ms
limit_of limits which.Reply = limits.reply_ms

-- the least number from which on every number up to n passes
abbrev pub least_from : (ℕ → Bool) → ℕ → ℕ
least_from test zero = zero
least_from test (suc n) = if test n then least_from test n else suc n

-- the shortest prefix from which on every prefix up to h has the wait that h has
abbrev pub began_by : (History → Wait) → History → History
began_by wait_at h = take (least_from (λ i. same_wait (wait_at (take i h)) (wait_at h)) (length h)) h

-- the moment at which the wait began, and its limit behind it
abbrev pub due_moment : Rules → History → ℕ
due_moment r h = min (moment (began_by (wait r) h) + limit_of r.limits (wait r h).which) (2 ^ 64 - 1)
