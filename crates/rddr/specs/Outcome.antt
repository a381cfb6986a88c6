-- What the program answers: what it writes, and its status.
use Rattle.std.specs.Prelude.{ℕ, ◌&&◌, nat_le, nat_lt, if◌then◌else◌, List, [], ◌++◌, length, map, codes, Option, Some, None, Result, Ok, Err}
use Rattle.std.specs.Fmt.{decimal}
use Rattle.rd_base.specs.Outside.{NamedFile, file_of}
use Rattle.rd_base.specs.History.{History}
use Rattle.rd_base.specs.declared.values.Ending.{Ending}
use Rattle.rd_base.specs.declared.values.Ending.TheVariants.{Done, Closed, Retired, Disagree, Noise, Malformed, TooBig, Unsupported, Unsolicited, Broken, Late, LinkFault, Stopped, FullLog, NoMemory, Unstarted}
use Rattle.rd_base.specs.declared.values.Limits.{Limits}
use Rattle.rd_base.specs.declared.values.Side.{Side}
use Rattle.rd_base.specs.declared.values.Side.TheVariants.{Incoming, Outgoing}
use Rattle.rd_base.specs.declared.names.NameRules.{NameRules}
use Rattle.rd_dialect.specs.Grammar.{Grammar}
use Rattle.rd_dialect.specs.LineGrammar.{line}
use Rattle.rd_rules.specs.Exchange.{Rules}
use Rattle.rd_rules.specs.Sent.{transcript, final}
use Rattle.rd_conf.specs.Defaults.{default_settings}
use Rattle.rd_conf.specs.Keys.{key_name}
use Rattle.rd_conf.specs.Settings.{settings_of}
use Rattle.rd_conf.specs.declared.settings.DialectName.{DialectName}
use Rattle.rd_conf.specs.declared.settings.DialectName.TheVariants as dialect
use Rattle.rd_conf.specs.declared.settings.Settings.{Settings}
use Rattle.rd_conf.specs.declared.settings.SettingsFail.{SettingsFail}
use Rattle.rd_conf.specs.declared.settings.SettingsFail.TheVariants.{NotToml, Missing, WrongKind, OutOfRange, Unknown, NoMemory as no_memory}
use Rattle.rd_http_tokens.specs.HttpOn.{http_on}
use Rattle.rd_pg_tokens.specs.PgGrammar.{pg}
use Rattle.rd_script.specs.Generator.{generated}
use Rattle.rd_script.specs.Script.{ScriptState, script_of}
use Rattle.rddr.specs.Forms.{Form, Check, Replay, ReplayUnder, Generate, form_of}
use Rattle.rd_session_run.specs.Runs.{rules_for}
use Rattle.rd_session_run.specs.Summaries.{summary, summary_text}
use Rattle.rd_session_run.specs.Transcripts.{transcript_text}

pub record Outcome : Type 0 where
  pub text : List ℕ
  pub status : ℕ

abbrev pub usage : Outcome
usage = record {
  text =
      codes "usage: rddr check SETTINGS\n" ++
      codes "       rddr replay SCRIPT\n" ++
      codes "       rddr replay SETTINGS SCRIPT\n" ++
      codes "       rddr gen SETTINGS NUMBER\n" ++
      codes "       rddr run SETTINGS\n";
  status = 2;
}

-- a file that can't be read: nothing is written
abbrev pub unread_outcome : Outcome
unread_outcome = record { text = []; status = 4 }

-- settings or a script that aren't in their grammar, or are too long
abbrev pub refusal : List ℕ → Outcome
refusal text = record { text = text; status = 3 }

-- ---- settings

-- a byte of an unknown key as it is printed
abbrev pub shown_byte : ℕ → ℕ
shown_byte byte = if nat_le 0x21 byte && nat_le byte 0x7e then byte else 0x3f

-- the line of a settings file's fault; want of memory is no fault of a file, and has none
abbrev pub fault_line : SettingsFail → List ℕ
fault_line NotToml = codes "settings: NotToml\n"
fault_line (Missing key) = codes "settings: Missing " ++ key_name key ++ codes "\n"
fault_line (WrongKind key) = codes "settings: WrongKind " ++ key_name key ++ codes "\n"
fault_line (OutOfRange key) = codes "settings: OutOfRange " ++ key_name key ++ codes "\n"
fault_line (Unknown key) = codes "settings: Unknown " ++ map shown_byte key ++ codes "\n"
fault_line no_memory = []

abbrev pub settings_or_outcome : Result Settings SettingsFail → Result Settings Outcome
settings_or_outcome (Ok settings) = Ok settings
settings_or_outcome (Err fault) = Err (refusal (fault_line fault))

-- the settings of a file of at most 65,536 bytes, or what the program answers where it has none
unfoldable pub settings_of_file : Option (List ℕ) → Result Settings Outcome
settings_of_file None = Err unread_outcome
settings_of_file (Some text) =
    if nat_lt 65536 (length text) then Err (refusal (codes "settings: too long\n")) else settings_or_outcome (settings_of text)

-- ---- scripts

abbrev pub bad_line : ℕ → Outcome
bad_line number = refusal (codes "script: BadLine " ++ decimal number ++ codes "\n")

abbrev pub script_or_outcome : Result ScriptState ℕ → Result ScriptState Outcome
script_or_outcome (Ok script) = Ok script
script_or_outcome (Err number) = Err (bad_line number)

-- the script among so many copies of a file of at most 67,108,864 bytes, or what the program answers where it has none
unfoldable pub script_of_file : ℕ → Option (List ℕ) → Result ScriptState Outcome
script_of_file copies None = Err unread_outcome
script_of_file copies (Some text) =
    if nat_lt 67108864 (length text) then Err (refusal (codes "script: too long\n")) else script_or_outcome (script_of copies text)

-- ---- sessions

-- what each dialect's name stands for, on a side and under rules of names; plain lines have no names
unfoldable pub grammar_of : DialectName → Side → NameRules → Grammar
grammar_of dialect.Line side names = line
grammar_of dialect.Http side names = http_on side names
grammar_of dialect.Pg side names = pg side names

-- the dialect that settings name for a side
abbrev pub dialect_on : Side → Settings → DialectName
dialect_on Incoming s = s.incoming
dialect_on Outgoing s = s.outgoing

-- a session of this side, in the dialect of this name, under these rules of names and limits
abbrev pub session_rules : DialectName → NameRules → Limits → Side → Rules
session_rules name names limits side = rules_for side (grammar_of name side names) limits

-- a session of plain lines
abbrev pub line_rules : Limits → Side → Rules
line_rules limits side = rules_for side line limits

-- a session that is live, or ended Done, Closed or Retired, is no failure; each ending is a case
abbrev pub status_of : Option Ending → ℕ
status_of None = 0
status_of (Some Done) = 0
status_of (Some (Closed link)) = 0
status_of (Some Retired) = 0
status_of (Some (Disagree exchange copy place)) = 1
status_of (Some (Noise exchange place)) = 1
status_of (Some (Malformed link)) = 1
status_of (Some (TooBig link)) = 1
status_of (Some (Unsupported link code)) = 1
status_of (Some (Unsolicited link)) = 1
status_of (Some (Broken link)) = 1
status_of (Some (Late which)) = 1
status_of (Some (LinkFault link)) = 1
status_of (Some Stopped) = 1
status_of (Some FullLog) = 1
status_of (Some NoMemory) = 1
status_of (Some Unstarted) = 1

-- the transcript of a history
unfoldable pub transcript_outcome : Rules → History → Outcome
transcript_outcome r h = record { text = transcript_text (transcript r h); status = status_of (final r h) }

-- what a history comes to, in numbers
unfoldable pub summary_outcome : Rules → History → Outcome
summary_outcome r h = record { text = summary_text (summary r h); status = status_of (final r h) }

-- a script, replayed in the dialect of this name
abbrev pub replay_outcome : DialectName → NameRules → Limits → ScriptState → Outcome
replay_outcome name names limits script = transcript_outcome (session_rules name names limits script.side) script.entries

-- a script, replayed under these settings, in the dialect that they name for its side
abbrev pub script_outcome : Settings → ScriptState → Outcome
script_outcome s script = replay_outcome (dialect_on script.side s) s.rules s.limits script

-- a script of so many exchanges, made and run in lines, whatever dialect the settings name
abbrev pub generate_under : Limits → ℕ → Outcome
generate_under limits number =
    let script = generated limits.copies number in summary_outcome (line_rules limits script.side) script.entries

-- ---- all

-- what follows from what was read, or the answer that there is already
abbrev pub outcome_after : {A : Type 0} → (A → Outcome) → Result A Outcome → Outcome
outcome_after next (Ok read) = next read
outcome_after next (Err answer) = answer

abbrev pub check_outcome : Outcome
check_outcome = record { text = codes "ok\n"; status = 0 }

-- a script's file, replayed under these settings
abbrev pub replay_under : Settings → Option (List ℕ) → Outcome
replay_under s file = outcome_after (script_outcome s) (script_of_file s.limits.copies file)

abbrev pub form_outcome : List NamedFile → Option Form → Outcome
form_outcome files None = usage
form_outcome files (Some (Check settings)) = outcome_after (λ s. check_outcome) (settings_of_file (file_of settings files))
form_outcome files (Some (Replay script)) = replay_under default_settings (file_of script files)
form_outcome files (Some (ReplayUnder settings script)) =
    outcome_after (λ s. replay_under s (file_of script files)) (settings_of_file (file_of settings files))
form_outcome files (Some (Generate settings number)) =
    outcome_after (λ s. generate_under s.limits number) (settings_of_file (file_of settings files))

-- what the program answers to these words over these files; faults are told in the order of words, settings and script
abbrev pub outcome : List (List ℕ) → List NamedFile → Outcome
outcome words files = form_outcome files (form_of words)
