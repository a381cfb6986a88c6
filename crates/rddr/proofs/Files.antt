-- What a file comes to, by its length.
use Rattle.std.proofs.Common.{◌≡◌, ℕ, ◌<◌, ◌≤◌, Bool, true, false, List, length, Some, Ok, Err, Result, ap, arith}
use Rattle.std.specs.Prelude.{nat_lt, codes, if◌then◌else◌}
use Rattle.std.proofs.lemmas.Bool.Decides.{nat_tests}
use Rattle.rd_conf.specs.Settings.{settings_of}
use Rattle.rd_conf.specs.declared.settings.Settings.{Settings}
use Rattle.rd_script.specs.Script.{ScriptState, script_of}
use Rattle.rddr.specs.Outcome.{Outcome, refusal, settings_of_file, settings_or_outcome, script_of_file, script_or_outcome}

abbrev if_long : {A : Type 0} → List ℕ → Result A Outcome → Bool → Result A Outcome
if_long line read long = if long then Err (refusal line) else read

-- settings of 65,536 bytes are read
pub settings_fit : (text : List ℕ) → length text ≤ 65536 → settings_of_file (Some text) ≡ settings_or_outcome (settings_of text)
unfolding settings_of_file
settings_fit text fits =
    let test : nat_lt 65536 (length text) ≡ false = grind (arith, nat_tests) in
    ap (if_long (codes "settings: too long\n") (settings_or_outcome (settings_of text))) test

pub settings_long : (text : List ℕ) → 65536 < length text → settings_of_file (Some text) ≡ Err (refusal (codes "settings: too long\n"))
unfolding settings_of_file
settings_long text long =
    let test : nat_lt 65536 (length text) ≡ true = grind (arith, nat_tests) in
    ap (if_long (codes "settings: too long\n") (settings_or_outcome (settings_of text))) test

-- scripts of 67,108,864 bytes are read
pub script_fits : (copies : ℕ) (text : List ℕ) → length text ≤ 67108864 → script_of_file copies (Some text) ≡ script_or_outcome (script_of copies text)
unfolding script_of_file
script_fits copies text fits =
    let test : nat_lt 67108864 (length text) ≡ false = grind (arith, nat_tests) in
    ap (if_long (codes "script: too long\n") (script_or_outcome (script_of copies text))) test

pub script_long : (copies : ℕ) (text : List ℕ) → 67108864 < length text → script_of_file copies (Some text) ≡ Err (refusal (codes "script: too long\n"))
unfolding script_of_file
script_long copies text long =
    let test : nat_lt 67108864 (length text) ≡ true = grind (arith, nat_tests) in
    ap (if_long (codes "script: too long\n") (script_or_outcome (script_of copies text))) test
