-- What contracts see of a sink in memory.
use Rattle.std.specs.Prelude.{◌≡◌, ◌⊎◌, ◌++◌, ◌==◌, ℕ, Bool, List, take, find, Option, Some, None}
use Rattle.rd_base.specs.Outside.{Mark, SinkTold}
use Rattle.rd_base.specs.declared.mem_sink.PushFault.{PushFault}

-- its mark, its count of faults, what it holds, whether it was closed, the number of the next push, and the pushes
-- that are to fail
pub record MemSinkView : Type 0 where
  pub mark : Mark
  pub faults : ℕ
  pub held : List ℕ
  pub is_closed : Bool
  pub calls : ℕ
  pub failing : List PushFault

-- what it tells
abbrev pub sink_tells : MemSinkView → SinkTold
sink_tells s = record { mark = s.mark; faults = s.faults; held = Some s.held; is_closed = s.is_closed }

-- the first listed fault of the push of this number
abbrev pub fault_at : ℕ → List PushFault → Option PushFault
fault_at call failing = find (λ fault. fault.call == call) failing

-- what a push that is to fail may leave: so many of its bytes, or none where memory runs out
abbrev pub FailsAfter : Option PushFault → List ℕ → List ℕ → List ℕ → Type 0
FailsAfter None held bytes now = Unit {0}
FailsAfter (Some fault) held bytes now = (now ≡ held ++ take fault.after bytes) ⊎ (now ≡ held)
