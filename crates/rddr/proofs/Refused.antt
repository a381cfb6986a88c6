-- Faults of settings and of scripts, as refusals.
use Rattle.std.proofs.Common.{◌≡◌, ◌≢◌, ◌≤◌, ◌-◌, ℕ, List, length, min, true, false, Some, Result, Err, refl, sym, ap, ◌∙◌, arith}
use Rattle.std.specs.Prelude.{◌^◌, IsErrAnd}
use Rattle.rd_conf.specs.declared.settings.SettingsFail.{SettingsFail}
use Rattle.rd_conf.specs.declared.settings.SettingsFail.TheVariants.{NotToml, Missing, WrongKind, OutOfRange, Unknown, NoMemory}
use Rattle.rd_script.specs.Script.{ScriptState, script_of}
use Rattle.rd_script.specs.declared.script.ScriptRefusal.{ScriptRefusal}
use Rattle.rd_script.specs.declared.script.ScriptRefusal.TheVariants as script
use Rattle.rddr.specs.Outcome.{refusal, fault_line, script_of_file, script_or_outcome}
use Rattle.rddr.specs.Works.{refusal_of, script_refusal_of, refusal_outcome, is_told}
use Rattle.rddr.proofs.Files.{script_fits}
use Rattle.rd_script.proofs.LineNumbers.{first_bad_line}

-- a fault that is told is printed by its line
pub fault_told : (fault : SettingsFail) → is_told (refusal_of fault) ≡ true → refusal_outcome (refusal_of fault) ≡ refusal (fault_line fault)
fault_told NotToml told = refl
fault_told (Missing key) told = refl
fault_told (WrongKind key) told = refl
fault_told (OutOfRange key) told = refl
fault_told (Unknown key) told = refl
fault_told NoMemory told = absurd (cc told)

-- want of memory isn't told
pub told_fault : (fault : SettingsFail) → is_told (refusal_of fault) ≡ true → fault ≢ NoMemory
told_fault fault told is = let no : false ≡ true = sym (ap (λ (f : SettingsFail). is_told (refusal_of f)) is) ∙ told in cc no

-- a script's reason that is told names its first bad line
pub bad_line_told : (copies : ℕ) (text : List ℕ) (reason : ScriptRefusal) → length text ≤ 67108864
    → ((number : ℕ) → ◌≡◌ {A = Result ScriptState ScriptRefusal} (Err reason) (Err (script.BadLine number)) → IsErrAnd (script_of copies text) (λ line. number ≡ min line (2 ^ 32 - 1)))
    → is_told (script_refusal_of reason) ≡ true → script_of_file copies (Some text) ≡ Err (refusal_outcome (script_refusal_of reason))
bad_line_told copies text (script.BadLine number) fits bad told =
    script_fits copies text fits ∙ ap script_or_outcome (first_bad_line copies number text (omega (arith, fits)) (bad number refl))
bad_line_told copies text script.NoMemory fits bad told = absurd (cc told)
