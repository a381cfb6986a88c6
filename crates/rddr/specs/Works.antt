-- What is left to do once all files were read.
use Rattle.std.specs.Prelude.{ℕ, ◌≡◌, ◌≤◌, Bool, true, false, [], codes}
use Rattle.rd_base.specs.History.{is_well_formed}
use Rattle.rd_base.specs.Limits.{AreLimits}
use Rattle.rd_base.specs.declared.values.Limits.{Limits}
use Rattle.rd_conf.specs.declared.settings.SettingsFail.{SettingsFail}
use Rattle.rd_conf.specs.declared.settings.SettingsFail.TheVariants as settings
use Rattle.rd_script.specs.Script.{ScriptState}
use Rattle.rd_script.specs.declared.script.ScriptRefusal.{ScriptRefusal}
use Rattle.rd_script.specs.declared.script.ScriptRefusal.TheVariants as script
use Rattle.rddr.specs.Forms as form
use Rattle.rddr.specs.Forms.{Form}
use Rattle.rddr.specs.Outcome.{Outcome, usage, unread_outcome, refusal, fault_line, bad_line, check_outcome, replay_outcome, generate_under}
use Rattle.rddr.specs.declared.command.Command.{Command}
use Rattle.rddr.specs.declared.command.Command.TheVariants as command
use Rattle.rddr.specs.declared.refusal.Refusal.{Refusal}
use Rattle.rddr.specs.declared.refusal.Refusal.TheVariants.{Words, Unread, LongSettings, Settings, LongScript, BadLine, NoMemory}
use Rattle.rddr.specs.declared.replay.Fault.{Fault}
use Rattle.rddr.specs.declared.replay.Fault.TheVariants as fault
use Rattle.rddr.specs.declared.work.Work.{Work}
use Rattle.rddr.specs.declared.work.Work.TheVariants.{Check, Replay, Generate}
use Rattle.rd_session_run.specs.declared.writing.ScriptFail.{ScriptFail}
use Rattle.rd_session_run.specs.declared.writing.ScriptFail.TheVariants as fail

-- the form that a command was read from
abbrev pub form_in : Command → Form
form_in (command.Check settings) = form.Check settings.now
form_in (command.Replay script) = form.Replay script.now
form_in (command.ReplayUnder settings script) = form.ReplayUnder settings.now script.now
form_in (command.Generate settings number) = form.Generate settings.now number

-- a script is made of 1 to 9,999 exchanges
abbrev pub HasRange : Command → Type 0
HasRange (command.Check settings) = Unit {0}
HasRange (command.Replay script) = Unit {0}
HasRange (command.ReplayUnder settings script) = Unit {0}
HasRange (command.Generate settings number) = (1 ≤ number) × (number ≤ 9999)

-- limits in their ranges, and a script that can be run under them
pub record CanRun (limits : Limits) (script : ScriptState) : Type 0 where
  pub ranges : AreLimits limits
  pub well_formed : is_well_formed limits.copies script.entries ≡ true

pub record CanGenerate (limits : Limits) (number : ℕ) : Type 0 where
  pub ranges : AreLimits limits
  pub least : 1 ≤ number
  pub most : number ≤ 9999

abbrev pub IsReady : Work → Type 0
IsReady Check = Unit {0}
IsReady (Replay dialect names limits script) = CanRun limits script
IsReady (Generate limits number) = CanGenerate limits number

-- what comes of it
abbrev pub work_outcome : Work → Outcome
work_outcome Check = check_outcome
work_outcome (Replay dialect names limits script) = replay_outcome dialect names limits script
work_outcome (Generate limits number) = generate_under limits number

-- what is outcome_after where nothing is run; want of memory has no answer of its own
abbrev pub refusal_outcome : Refusal → Outcome
refusal_outcome Words = usage
refusal_outcome Unread = unread_outcome
refusal_outcome LongSettings = refusal (codes "settings: too long\n")
refusal_outcome (Settings fault) = refusal (fault_line fault)
refusal_outcome LongScript = refusal (codes "script: too long\n")
refusal_outcome (BadLine number) = bad_line number
refusal_outcome NoMemory = refusal []

-- the program says why; it says nothing where a file couldn't be read or memory ran out
abbrev pub is_told : Refusal → Bool
is_told Words = true
is_told Unread = false
is_told LongSettings = true
is_told (Settings fault) = true
is_told LongScript = true
is_told (BadLine number) = true
is_told NoMemory = false

-- the refusal of settings with this fault
abbrev pub refusal_of : SettingsFail → Refusal
refusal_of settings.NotToml = Settings settings.NotToml
refusal_of (settings.Missing key) = Settings (settings.Missing key)
refusal_of (settings.WrongKind key) = Settings (settings.WrongKind key)
refusal_of (settings.OutOfRange key) = Settings (settings.OutOfRange key)
refusal_of (settings.Unknown key) = Settings (settings.Unknown key)
refusal_of settings.NoMemory = NoMemory

-- the refusal of a script for this reason
abbrev pub script_refusal_of : ScriptRefusal → Refusal
script_refusal_of (script.BadLine number) = BadLine number
script_refusal_of script.NoMemory = NoMemory

-- why a transcript wasn't written, as a fault of the program
abbrev pub fault_of : ScriptFail → Fault
fault_of fail.WriteFail = fault.WriteFail
fault_of fail.NoMemory = fault.NoMemory
