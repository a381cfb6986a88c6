-- Faults in order, and what a call answers.
use Rattle.std.specs.Prelude.{◌≡◌, ◌≢◌, Result, Ok, Err, MatchResult}
use Rattle.rd_conf.specs.declared.settings.SettingsFail.{SettingsFail}
use Rattle.rd_conf.specs.declared.settings.SettingsFail.TheVariants.{NoMemory}

-- the first fault, or what follows from the setting
infixl 10 ◌>>=◌
abbrev pub ◌>>=◌ : {A B : Type 0} → Result A SettingsFail → (A → Result B SettingsFail) → Result B SettingsFail
Ok setting >>= next = next setting
Err fault >>= next = Err fault

-- the answer is the one that is due, but for want of memory
abbrev pub IsAnswer : {A : Type 0} → Result A SettingsFail → Result A SettingsFail → Type 0
IsAnswer answer due = MatchResult answer (λ setting. due ≡ Ok setting) (λ fault. fault ≢ NoMemory → due ≡ Err fault)
