-- The forms of the program's words.
use Rattle.std.specs.Prelude.{ℕ, ◌&&◌, nat_le, if◌then◌else◌, List, [], ◌∷◌, codes, bytes_eq, Option, Some, None, option_map, option_and_then}
use Rattle.rd_script.specs.Script.{number_of}

-- what the program is asked for, with the names of the files that it reads
pub data Form : Type 0 where
  Check : List ℕ → Form
  Replay : List ℕ → Form
  ReplayUnder : List ℕ → List ℕ → Form
  Generate : List ℕ → ℕ → Form

-- a script is generated of 1 to 9,999 exchanges
abbrev pub count_in_range : ℕ → Option ℕ
count_in_range number = if nat_le 1 number && nat_le number 9999 then Some number else None

-- the same in decimal digits, without a leading zero
abbrev pub exchange_count : List ℕ → Option ℕ
exchange_count word = option_and_then count_in_range (number_of word)

-- `check SETTINGS` and `replay SCRIPT`
abbrev pub form_of_two : List ℕ → List ℕ → Option Form
form_of_two command file =
    if bytes_eq command (codes "check") then Some (Check file)
    else if bytes_eq command (codes "replay") then Some (Replay file)
    else None

-- `replay SETTINGS SCRIPT` and `gen SETTINGS NUMBER`
abbrev pub form_of_three : List ℕ → List ℕ → List ℕ → Option Form
form_of_three command settings last =
    if bytes_eq command (codes "replay") then Some (ReplayUnder settings last)
    else if bytes_eq command (codes "gen") then option_map (λ number. Generate settings number) (exchange_count last)
    else None

-- the form of the words behind the program's name; None where they have none that is served
abbrev pub form_of : List (List ℕ) → Option Form
form_of [] = None
form_of (command ∷ []) = None
form_of (command ∷ file ∷ []) = form_of_two command file
form_of (command ∷ settings ∷ last ∷ []) = form_of_three command settings last
form_of (command ∷ settings ∷ last ∷ more ∷ others) = None
