-- What a step writes to the sinks of a session.
use Rattle.std.specs.Prelude.{◌≡◌, ℕ, ◌<◌, ◌≤◌, false, List, length, slice_index_or, Option, Some, None}
use Rattle.rd_base.specs.declared.values.Link.{Link}
use Rattle.rd_base.specs.Outside.{SinkTold, StaysOpen, Rose, HoldsPrefix, held_with}

abbrev pub no_sink : SinkTold
no_sink = record { mark = record { first = 0; second = 0 }; faults = 0; held = None; is_closed = false }

-- the sink of a link
abbrev pub sink_at : List SinkTold → ℕ → SinkTold
sink_at sinks l = slice_index_or sinks l no_sink

-- they are open
abbrev pub AreOpen : List SinkTold → Type 0
AreOpen sinks = (l : ℕ) → l < length sinks → (sink_at sinks l).is_closed ≡ false

-- a sink was written these bytes
pub record Wrote (bytes : List ℕ) (old new : SinkTold) : Type 0 where
  pub held : new.held ≡ held_with old.held bytes
  pub stays : StaysOpen old new

-- a write of these bytes failed: the sink holds a prefix of them, and its count of faults rose
pub record Broke (bytes : List ℕ) (old new : SinkTold) : Type 0 where
  pub held : HoldsPrefix old.held new.held bytes
  pub rose : Rose old.faults new.faults
  pub stays : StaysOpen old new

-- each sink was written the bytes of its link
pub record AllWrote (bytes_for : ℕ → List ℕ) (olds news : List SinkTold) : Type 0 where
  pub same : length news ≡ length olds
  pub wrote : (l : ℕ) → l < length olds → Wrote (bytes_for l) (sink_at olds l) (sink_at news l)

-- the write to link w failed: the sinks before it were written all of the step, those behind it nothing
pub record WroteTo (w : ℕ) (bytes_for : ℕ → List ℕ) (olds news : List SinkTold) : Type 0 where
  pub same : length news ≡ length olds
  pub is_link : w < length olds
  pub before : (l : ℕ) → l < w → Wrote (bytes_for l) (sink_at olds l) (sink_at news l)
  pub here : Broke (bytes_for w) (sink_at olds w) (sink_at news w)
  pub behind : (l : ℕ) → w < l → sink_at news l ≡ sink_at olds l

-- each sink was written the bytes of its link, up to a write that failed
abbrev pub WroteUpTo : Option Link → (ℕ → List ℕ) → List SinkTold → List SinkTold → Type 0
WroteUpTo None bytes_for olds news = AllWrote bytes_for olds news
WroteUpTo (Some w) bytes_for olds news = WroteTo w.0 bytes_for olds news

-- the first sinks were written the bytes of their links, the others nothing
pub record WroteFirst (count : ℕ) (bytes_for : ℕ → List ℕ) (olds news : List SinkTold) : Type 0 where
  pub same : length news ≡ length olds
  pub wrote : (l : ℕ) → l < count → Wrote (bytes_for l) (sink_at olds l) (sink_at news l)
  pub others : (l : ℕ) → count ≤ l → sink_at news l ≡ sink_at olds l
