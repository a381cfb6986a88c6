-- What holds of each session that has run to its end.
use Rattle.std.specs.Prelude.{◌≡◌, ℕ, ◌≤◌, ◌^◌, ◌-◌, List}
use Rattle.rd_base.specs.History.{Row}
use Rattle.rd_base.specs.Outside.{SinkTold}
use Rattle.rd_base.specs.declared.values.Ending.TheVariants.{Stopped}
use Rattle.rd_rules.specs.Exchange.{Rules}
use Rattle.rd_runner.specs.Counts.{RoseBy}
use Rattle.rd_turn.specs.declared.log.LogEntry.{LogEntry}
use Rattle.rd_turn.specs.Turns.{Outside}
use Rattle.rd_run.specs.Ran.{SessionRan}
use Rattle.rd_run.specs.declared.session.Left.{Left}
use Rattle.rd_run_session.specs.Left.{last_stamp}

-- a session was Stopped only where the stopper's count rose, or stands at its last value
pub record CountsStops (result : Left) (before after : Outside) : Type 0 where
  pub stays : before.stopper.yeses ≤ after.stopper.yeses
  pub most : after.stopper.yeses ≤ 2 ^ 64 - 1
  pub rose : result.ending ≡ Stopped → RoseBy 1 before.stopper.yeses after.stopper.yeses

abbrev pub StopsAreCounted : Type 0
StopsAreCounted = (r : Rules) (before after : Outside) (entries : List LogEntry) (told : List Row) (result : Left) (olds news : List SinkTold)
    → SessionRan r before after entries told result olds news → before.stopper.yeses ≤ 2 ^ 64 - 1 → CountsStops result before after

-- no stamp is more than the clock's span
pub record StampsWithin (entries : List LogEntry) (before after : Outside) : Type 0 where
  pub stays : before.clock.span ≤ after.clock.span
  pub last : last_stamp entries ≤ after.clock.span

abbrev pub StampsAreWithin : Type 0
StampsAreWithin = (r : Rules) (before after : Outside) (entries : List LogEntry) (told : List Row) (result : Left) (olds news : List SinkTold)
    → SessionRan r before after entries told result olds news → StampsWithin entries before after
