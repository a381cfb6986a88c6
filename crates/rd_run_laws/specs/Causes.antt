-- What causes the entries of a log, and a link's fault.
use Rattle.std.specs.Prelude.{◌≡◌, ◌≢◌, ◌≤◌, ◌<◌, ◌^◌, ◌-◌, ◌+◌, ◌==◌, ◌⊎◌, ℕ, Bool, true, false, List, length, slice_index_or, Some, None}
use Rattle.std.specs.List.{list_any, AllByRecursion as Each}
use Rattle.rd_base.specs.History.{History, Row}
use Rattle.rd_base.specs.Outside.{SinkTold, Rose}
use Rattle.rd_base.specs.Sources.{SourceTold}
use Rattle.rd_base.specs.declared.values.Ending.TheVariants.{LinkFault, NoMemory}
use Rattle.rd_base.specs.declared.values.Link.{Link}
use Rattle.rd_rules.specs.Exchange.{Rules}
use Rattle.rd_rules.specs.Sent.{final}
use Rattle.rd_rules.specs.Trouble.{fails}
use Rattle.rd_gate.specs.declared.gate.View.{View}
use Rattle.rd_turn.specs.declared.log.LogEntry.{LogEntry}
use Rattle.rd_turn.specs.declared.log.Act.{Act}
use Rattle.rd_turn.specs.declared.log.Act.TheVariants.{Took, Timer, Stop, WriteFail}
use Rattle.rd_turn.specs.Sinks.{sink_at}
use Rattle.rd_turn.specs.Turns.{Outside}
use Rattle.rd_run.specs.Ran.{SessionRan}
use Rattle.rd_run.specs.Links.{LinksDone}
use Rattle.rd_run.specs.Whole.{RunsBy, may_stay, taken_in}
use Rattle.rd_run.specs.declared.run.Run.{Run}
use Rattle.rd_run.specs.declared.session.Left.{Left}

abbrev pub is_stop : Act → Bool
is_stop (Took l) = false
is_stop Timer = false
is_stop Stop = true
is_stop (WriteFail l) = false

-- a Stop stands in the log
abbrev pub has_stop : List LogEntry → Bool
has_stop log = list_any (λ e. is_stop e.act) log

-- a failed write to link l
abbrev pub is_write_fail : ℕ → Act → Bool
is_write_fail l (Took m) = false
is_write_fail l Timer = false
is_write_fail l Stop = false
is_write_fail l (WriteFail m) = l == m.0

abbrev pub has_write_fail : ℕ → List LogEntry → Bool
has_write_fail l log = list_any (λ e. is_write_fail l e.act) log

-- no stamp is more than the clock's span
abbrev pub StampsAreWithin : Type 0
StampsAreWithin = (r : Rules) (before after : Outside) (entries : List LogEntry) (told : List Row) (result : Left) (olds news : List SinkTold)
    → SessionRan r before after entries told result olds news → Each (λ e. e.at ≤ after.clock.span) entries

-- where a Stop stands in the log the stopper's yeses rose, or stand at their last value
abbrev pub StopsHaveYeses : Type 0
StopsHaveYeses = (r : Rules) (before after : Outside) (entries : List LogEntry) (told : List Row) (result : Left) (olds news : List SinkTold)
    → SessionRan r before after entries told result olds news → before.stopper.yeses ≤ 2 ^ 64 - 1
    → has_stop entries ≡ true → Rose before.stopper.yeses after.stopper.yeses

-- where they rose a Stop stands in the log, but after want of memory
abbrev pub YesesHaveStops : Type 0
YesesHaveStops = (r : Rules) (before after : Outside) (entries : List LogEntry) (told : List Row) (result : Left) (olds news : List SinkTold)
    → SessionRan r before after entries told result olds news → result.ending ≢ NoMemory
    → before.stopper.yeses < after.stopper.yeses → has_stop entries ≡ true

-- a count rose, or is at its last value
abbrev pub RoseToLast : ℕ → ℕ → Type 0
RoseToLast before after = (before < after) ⊎ (2 ^ 64 - 1 ≤ after)

-- where a failed write to a link stands in the log the count of faults of its sink rose
abbrev pub WriteFailsHaveFaults : Type 0
WriteFailsHaveFaults = (r : Rules) (before after : Outside) (entries : List LogEntry) (told : List Row) (result : Left) (olds news : List SinkTold)
    → SessionRan r before after entries told result olds news → (l : ℕ) → has_write_fail l entries ≡ true
    → RoseToLast (sink_at olds l).faults (sink_at news l).faults

-- ---- a link's fault

-- a history ends as a link's fault only where a read or a write of that link failed
abbrev pub OnlyFaults : Type 0
OnlyFaults = (r : Rules) (h : History) (l : Link) → final r h ≡ Some (LinkFault l)
    → (l.0 < r.limits.copies + 1) × (list_any (λ e. fails l.0 e.what) h ≡ true)

abbrev pub no_source : SourceTold
no_source = record { mark = record { first = 0; second = 0 }; faults = 0; given = None }

-- the source of a link
abbrev pub source_at : List SourceTold → ℕ → SourceTold
source_at sources l = slice_index_or sources l no_source

-- the count of faults of a link's source rose, or that of its sink
abbrev pub LinkFailed : ℕ → List SourceTold → List SourceTold → List SinkTold → List SinkTold → Type 0
LinkFailed l sources sources' sinks sinks' =
    Rose (source_at sources l).faults (source_at sources' l).faults ⊎ RoseToLast (sink_at sinks l).faults (sink_at sinks' l).faults

-- a run that is promised so, over a source and a sink for each link, ends as a link's fault only where that link failed
abbrev pub LinkFaultsHaveCauses : Type 0 → Type 0 → Type 0
LinkFaultsHaveCauses S R = (r : Rules) (before after : View → Outside) (refusals refusals' : ℕ) (run : Run S R)
    (sources sources' : List SourceTold) (sinks sinks' : List SinkTold)
    → ((v : View) → (after v).gate ≡ v) → length sources ≡ r.limits.copies + 1
    → RunsBy r before after refusals refusals' run sinks sinks' → LinksDone (may_stay run) (taken_in run) 0 sources sources'
    → (l : Link) → run.report.ending ≡ LinkFault l → LinkFailed l.0 sources sources' sinks sinks'
