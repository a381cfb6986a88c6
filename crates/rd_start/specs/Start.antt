-- What the thread of a reader gives.
use Rattle.std.specs.Prelude.{◌≡◌}
use Rattle.rd_base.specs.Sources.{SourceTold}
use Rattle.rd_gate.specs.declared.reader.ReaderBack.{ReaderBack}
use Rattle.rd_gate.specs.Gate.{Known}
use Rattle.rd_gate.specs.Reads.{Reads}
use Rattle.rd_start.specs.declared.reading.Start.{Start}
use Rattle.rd_start.specs.declared.reading.Start.TheVariants.{Unread, Read}

module _ {S R : Type 0} (tells : S → SourceTold) where
  -- the reader has handed on the source's answers
  pub record IsBack (source : S) (pass : Known) (b : ReaderBack S R) : Type 0 where
    pub gate : b.pass.gate ≡ pass.gate
    pub reads : Reads (tells source) (tells b.source) pass.knows b.pass.knows

  -- source and pass came back as they were, or read
  abbrev pub KeepsStart : S → Known → Start S R → Type 0
  KeepsStart source pass (Unread s p) = (s ≡ source) × (p ≡ pass)
  KeepsStart source pass (Read b) = IsBack source pass b
