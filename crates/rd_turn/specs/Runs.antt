-- What the turns of a session come to.
use Rattle.std.specs.Prelude.{◌≡◌, ℕ, ◌+◌, ◌<◌, true, List, [], ◌∷◌, ◌++◌, length, map, fold, Option, Some, None}
use Rattle.rd_base.specs.Outside.{SinkTold, Rose, HoldsPrefix, held_with}
use Rattle.rd_base.specs.History.{History, Entry, Row, is_well_formed}
use Rattle.rd_base.specs.declared.values.Link.{Link}
use Rattle.rd_base.specs.declared.values.Ending.{Ending}
use Rattle.rd_base.specs.declared.values.Ending.TheVariants.{NoMemory}
use Rattle.rd_base.specs.declared.values.What.TheVariants.{WriteFail}
use Rattle.rd_rules.specs.Exchange.{Rules}
use Rattle.rd_rules.specs.Sent.{final, sent, sent_past, exchanges, masked}
use Rattle.rd_turn.specs.declared.log.LogEntry.{LogEntry}
use Rattle.rd_turn.specs.declared.running.Over.{Over}
use Rattle.rd_turn.specs.declared.running.Counts.{Counts}
use Rattle.rd_turn.specs.Books.{BeginsBook}
use Rattle.rd_turn.specs.Sinks.{sink_at, Wrote, AllWrote}
use Rattle.rd_turn.specs.Turns.{Turn, Outside, after_turn, entry_at, turn_step, history_of, told_of, logged, AreTimely, AreAmong, item_taken}

-- the last step's writes broke off at link w: the sinks before it hold all of that step, its own a prefix, those behind it
-- nothing of it
pub record BrokeOff (r : Rules) (h : History) (w : Link) (olds news : List SinkTold) : Type 0 where
  pub before : History
  pub step : Entry
  pub are : h ≡ (before ++ step ∷ []) ++ entry_at step.at (WriteFail w) [] ∷ []
  pub same : length news ≡ length olds
  pub is_link : w.0 < length olds
  pub all : (l : ℕ) → l < w.0 → Wrote (sent r l h) (sink_at olds l) (sink_at news l)
  pub part : HoldsPrefix (held_with (sink_at olds w.0).held (sent r w.0 before)) (sink_at news w.0).held (sent_past r before h w.0)
  pub fault : Rose (sink_at olds w.0).faults (sink_at news w.0).faults
  pub mark : (sink_at news w.0).mark ≡ (sink_at olds w.0).mark
  pub none : (l : ℕ) → w.0 < l → l < length olds → Wrote (sent r l before) (sink_at olds l) (sink_at news l)

-- each sink was written what its link has been sent by h, up to a write that failed
abbrev pub WroteSent : Rules → History → Option Link → List SinkTold → List SinkTold → Type 0
WroteSent r h None olds news = AllWrote (λ l. sent r l h) olds news
WroteSent r h (Some w) olds news = BrokeOff r h w olds news

-- the session ended as its history says, or memory ran out in a last turn, which gave back what it took
abbrev pub EndsBy : Rules → ℕ → History → List Turn → Over → Type 0
EndsBy r base h [] over = (final r h ≡ Some over.ending) × (over.back ≡ None)
EndsBy r base h (t ∷ more) over =
    (over.ending ≡ NoMemory) × (over.back ≡ item_taken t.did) × (over.failed ≡ None) × (more ≡ []) × BeginsBook r h (turn_step base t) t.found t.learnt

-- the numbers are those of a history
pub record AreCounts (r : Rules) (h : History) (c : Counts) : Type 0 where
  pub exchanges : c.exchanges ≡ exchanges r h
  pub masked : c.masked ≡ masked r h

-- no write failed but that of the last of these turns, to this link
abbrev pub FailsLast : List Turn → Option Link → Type 0
FailsLast [] failed = failed ≡ None
FailsLast (t ∷ []) failed = t.failed ≡ failed
FailsLast (t ∷ u ∷ turns) failed = (t.failed ≡ None) × FailsLast (u ∷ turns) failed

-- what is true of a well-formed history
pub record Truly (r : Rules) (base : ℕ) (turns given_up : List Turn) (over : Over) (olds news : List SinkTold) : Type 0 where
  pub timely : AreTimely r base [] turns
  pub fails : FailsLast turns over.failed
  pub wrote : WroteSent r (history_of base turns) over.failed olds news
  pub ends : EndsBy r base (history_of base turns) given_up over
  pub counts : AreCounts r (history_of base turns) over.counts

-- a session has run: turns that were logged, and at most one that met want of memory
pub record HasRun (r : Rules) (base : ℕ) (before after : Outside) (entries : List LogEntry) (told : List Row) (over : Over) (olds news : List SinkTold) : Type 0 where
  pub turns : List Turn
  pub given_up : List Turn
  pub asks : after ≡ fold after_turn before (turns ++ given_up)
  pub among : AreAmong (r.limits.copies + 1) (turns ++ given_up)
  pub log : entries ≡ map logged (history_of base turns)
  pub rows : told ≡ told_of turns
  pub truly : is_well_formed r.limits.copies (history_of base (turns ++ given_up)) ≡ true → Truly r base turns given_up over olds news

-- while it runs: every turn so far was logged, and no write has failed
pub record RunsTruly (r : Rules) (base : ℕ) (turns : List Turn) (at : History → Type 0) (olds news : List SinkTold) : Type 0 where
  pub timely : AreTimely r base [] turns
  pub stands : at (history_of base turns)
  pub wrote : AllWrote (λ l. sent r l (history_of base turns)) olds news

pub record Runs (r : Rules) (base : ℕ) (before after : Outside) (entries : List LogEntry) (told : List Row) (at : History → Type 0) (olds news : List SinkTold) : Type 0 where
  pub turns : List Turn
  pub asks : after ≡ fold after_turn before turns
  pub among : AreAmong (r.limits.copies + 1) turns
  pub fails : FailsLast turns None
  pub log : entries ≡ map logged (history_of base turns)
  pub rows : told ≡ told_of turns
  pub truly : is_well_formed r.limits.copies (history_of base turns) ≡ true → RunsTruly r base turns at olds news
