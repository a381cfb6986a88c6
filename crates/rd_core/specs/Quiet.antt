-- A step that only brings more of a reply.
use Rattle.std.specs.Prelude.{◌≡◌, ◌<◌, [], Some, None, option_map}
use Rattle.rd_dialect.specs.Grammar.{Grammar}
use Rattle.rd_rules.specs.Exchange as rule
use Rattle.rd_rules.specs.Trouble.{trouble_of}
use Rattle.rd_reading.specs.declared.setup.Setup.{Setup}
use Rattle.rd_reading.specs.Seen.{seen_request, seen_front, rules_of}
use Rattle.rd_core.specs.declared.stage.Stage.{Stage}
use Rattle.rd_core.specs.declared.plan.Outcome.{Outcome}
use Rattle.rd_core.specs.Stages.{seen_stage}

-- a request is out, and not all replies to it are there
pub record StillWaits (g : Grammar) (setup : Setup) (stage : Stage) : Type 0 where
  pub ask : rule.Ask
  pub out : option_map seen_request stage.out ≡ Some ask
  pub spare : stage.count < setup.limits.exchanges_max
  pub none : rule.replies_at g setup.limits.mask (seen_front stage.left) ask ≡ None

-- then nothing is sent, masked or learnt
pub record IsQuiet (g : Grammar) (setup : Setup) (stage : Stage) (outcome : Outcome) : Type 0 where
  pub waits : StillWaits g setup stage
  pub rows : outcome.rows ≡ []
  pub own : outcome.own ≡ None
  pub sends : outcome.sends ≡ []
  pub masked : outcome.masked ≡ 0
  pub trouble : outcome.trouble ≡ trouble_of (rules_of g setup) (seen_stage stage [])
