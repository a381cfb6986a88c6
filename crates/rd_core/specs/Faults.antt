-- The link that a happening fails, and a piece that goes too far.
use Rattle.std.specs.Prelude.{ℕ, List, Option, Some, None, if◌then◌else◌, nat_le, find, ◌+◌, ◌==◌, ◌&&◌}
use Rattle.rd_base.specs.Words.{below}
use Rattle.rd_base.specs.History.{is_stop}
use Rattle.rd_base.specs.declared.values.What.{What}
use Rattle.rd_base.specs.declared.values.What.TheVariants.{Piece, End, ReadFail, WriteFail, Timer, Stop}
use Rattle.rd_base.specs.declared.values.Ending.{Ending}
use Rattle.rd_base.specs.declared.values.Ending.TheVariants.{LinkFault, Unsolicited}
use Rattle.rd_dialect.specs.Grammar.{Grammar}
use Rattle.rd_rules.specs.Exchange.{Ask, Open}
use Rattle.rd_rules.specs.Trouble.{or_else, fails, goes_past, least_open, link_fault_at, link_of, stopped_at}

abbrev pub failing : What → Option ℕ
failing (Piece l bytes) = None
failing (End l) = None
failing (ReadFail l) = Some l.0
failing (WriteFail l) = Some l.0
failing Timer = None
failing Stop = None

abbrev pub fault_of : ℕ → Option ℕ → Option Ending
fault_of n None = None
fault_of n (Some l) = if nat_le l n then Some (LinkFault (link_of l)) else None

-- what one happening says by itself: a link failed, or the operator stopped the session
abbrev pub fault_by : ℕ → What → Option Ending
fault_by n w = or_else (link_fault_at (find (λ l. fails l w) (below (n + 1)))) (stopped_at (is_stop w))

-- the first link of this number whose bytes go past the reply that is out
abbrev pub past_among : Grammar → Option Ask → ℕ → List Open → Option Ending
past_among g out l opens = least_open Unsolicited (λ o. (o.link == l) && goes_past g out o.bytes) opens
