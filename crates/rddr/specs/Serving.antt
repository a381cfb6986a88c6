-- What `run SETTINGS` serves by.
use Rattle.std.specs.Prelude.{◌&&◌, ◌==◌, not, if◌then◌else◌, ℕ, List, [], ◌∷◌, length, codes, bytes_eq, Option, Some, None, Result, Ok, Err}
use Rattle.rd_base.specs.Outside.{NamedFile, file_of}
use Rattle.rd_conf.specs.declared.key.Key.{Key}
use Rattle.rd_conf.specs.declared.key.Key.TheVariants.{PortsListen, PortsInstances, PortsBackend}
use Rattle.rd_conf.specs.declared.settings.Ports.{Ports}
use Rattle.rd_conf.specs.declared.settings.Settings.{Settings}
use Rattle.rd_conf.specs.declared.settings.SettingsFail.TheVariants.{Missing}
use Rattle.rddr.specs.Outcome.{Outcome, usage, refusal, fault_line, settings_of_file}

-- the first key, in the order of the table of settings, that serving requires and that is absent
abbrev pub missing_port : Ports → Option Key
missing_port p =
    if length p.listen == 0 then Some PortsListen
    else if length p.instances == 0 then Some PortsInstances
    else if not (length p.callers == 0) && (length p.backend == 0) then Some PortsBackend
    else None

abbrev pub without_port : Settings → Option Key → Result Settings Outcome
without_port s None = Ok s
without_port s (Some key) = Err (refusal (fault_line (Missing key)))

abbrev pub with_ports : Result Settings Outcome → Result Settings Outcome
with_ports (Ok s) = without_port s (missing_port s.ports)
with_ports (Err answer) = Err answer

-- the settings of a command and a file, where the command is `run`
abbrev pub served_file : List ℕ → List ℕ → List NamedFile → Result Settings Outcome
served_file command file files =
    if bytes_eq command (codes "run") then with_ports (settings_of_file (file_of file files)) else Err usage

-- the settings that these words serve by, or what the program answers where there are none
abbrev pub served_by : List (List ℕ) → List NamedFile → Result Settings Outcome
served_by [] files = Err usage
served_by (command ∷ []) files = Err usage
served_by (command ∷ file ∷ []) files = served_file command file files
served_by (command ∷ file ∷ more ∷ others) files = Err usage
