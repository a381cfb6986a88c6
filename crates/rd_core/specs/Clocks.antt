-- Where and when a session stands, as the definitions see it.
use Rattle.std.specs.Prelude.{List}
use Rattle.rd_base.specs.History.{Entry, Row}
use Rattle.rd_base.specs.declared.values.Happening.{Happening}
use Rattle.rd_core.specs.declared.clock.Clock.{Clock}
use Rattle.rd_core.specs.declared.stage.Stage.{Stage}
use Rattle.rd_core.specs.Stages.{seen_stage}
use Rattle.rd_core.specs.Standing.{Standing}

abbrev pub standing : Stage → List Row → Clock → Standing
standing stage own clock = record { stage = seen_stage stage own; entries = clock.entries; moment = clock.moment; began = clock.began }

-- a happening with the rows told to its step
abbrev pub entry_of : Happening → List Row → Entry
entry_of happening told = record { at = happening.at; what = happening.what; told = told }
