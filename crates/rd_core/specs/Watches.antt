-- What is kept of the due links between steps.
use Rattle.std.specs.Prelude.{◌≡◌, []}
use Rattle.rd_base.specs.declared.values.What.{What}
use Rattle.rd_dialect.specs.Grammar.{Grammar}
use Rattle.rd_rules.specs.Step.{grow_front_by}
use Rattle.rd_rules.specs.Trouble.{due_of}
use Rattle.rd_reading.specs.Seen.{seen_front}
use Rattle.rd_core.specs.declared.stage.Stage.{Stage}
use Rattle.rd_core.specs.declared.watch.Watch.{Watch}
use Rattle.rd_core.specs.Stages.{seen_stage}
use Rattle.rd_core.specs.Looks.{looks_at}

-- what is kept of the due links is what a scan of them would answer
pub record IsWatch (g : Grammar) (stage : Stage) (watch : Watch) : Type 0 where
  pub due : watch.due ≡ due_of g (seen_stage stage [])
  pub looks : watch.looks.items ≡ looks_at g stage

-- the same, before what is open heard a happening
pub record WasWatch (g : Grammar) (stage : Stage) (w : What) (watch : Watch) : Type 0 where
  pub before : Stage
  pub kept : IsWatch g before watch
  pub out : stage.out ≡ before.out
  pub left : seen_front stage.left ≡ grow_front_by w (seen_front before.left)
