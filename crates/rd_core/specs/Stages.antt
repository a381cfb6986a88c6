-- Where a session stands, as the definitions see it.
use Rattle.std.specs.Prelude.{◌-◌, List, Option, option_map, IfSome}
use Rattle.rd_base.specs.History.{Row}
use Rattle.rd_dialect.specs.Grammar.{Grammar}
use Rattle.rd_rules.specs.Exchange.{Rules, Reading, read}
use Rattle.rd_rules.specs.Trouble.{Now}
use Rattle.rd_core.specs.declared.stage.Stage.{Stage}
use Rattle.rd_core.specs.declared.stage.Next.{Next}
use Rattle.rd_reading.specs.declared.exchange.Front.{Front}
use Rattle.rd_reading.specs.declared.exchange.Request.{Request}
use Rattle.rd_reading.specs.Seen.{seen_front, latest_front, seen_request}
use Rattle.rd_reading.specs.Whole.{IsAsked}

-- a stage, with the own rows that stand beside it
abbrev pub seen_stage : Stage → List Row → Now
seen_stage s own = record { count = s.count; bye = s.bye; own = own; left = seen_front s.left; out = option_map seen_request s.out }

-- the request that is out is whole
abbrev pub HasAsked : Grammar → Option Request → Type 0
HasAsked g out = IfSome out (λ request. IsAsked g (seen_request request))

-- a stage that goes on to what is next, from what is open
abbrev pub seen_next : Front → Next → List Row → Now
seen_next left next own = record { count = next.count; bye = next.bye; own = own; left = seen_front (latest_front left next.left); out = option_map seen_request next.out }

-- what is read of what is open
abbrev pub read_now : Rules → Stage → Reading
read_now r s = read r.grammar r.limits.mask (r.limits.exchanges_max - s.count) (seen_front s.left)
