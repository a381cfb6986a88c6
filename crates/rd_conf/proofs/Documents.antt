-- What a text is as a TOML document, and what follows for its settings.
use Rattle.std.proofs.Common.{◌≡◌, ◌≢◌, ◌∙◌, ℕ, Bool, true, false, List, Some, None, Result, Ok, Err, IfOk, IfErr, IsUtf8, if◌then◌else◌, refl, ap}
use Rattle.std.proofs.lemmas.Str.{IsUtf8-from_is_utf8, is_utf8-from_IsUtf8}
use Rattle.std.specs.Str.{is_utf8}
use Rattle.toml.specs.Data.{Members}
use Rattle.toml.specs.Parse.{parse_document}
use Rattle.rd_conf.specs.declared.settings.Settings.{Settings}
use Rattle.rd_conf.specs.declared.settings.SettingsFail.{SettingsFail}
use Rattle.rd_conf.specs.declared.settings.SettingsFail.TheVariants.{NotToml, NoMemory}
use Rattle.rd_conf.specs.Answers.{IsAnswer}
use Rattle.rd_conf.specs.Settings.{table_of, settings_in, settings_or_not_toml, settings_of}

pub a_table : (text : List ℕ) (top : Members) → IsUtf8 text → parse_document text ≡ Some top → settings_of text ≡ settings_in top
unfolding table_of
a_table text top utf8 parsed = rw (is_utf8-from_IsUtf8 text utf8, parsed) refl

-- a text is in UTF-8 or not
by_utf8 : (text : List ℕ) (b : Bool) → is_utf8 text ≡ b → (IsUtf8 text → parse_document text ≡ None)
    → (if b then parse_document text else None) ≡ None
by_utf8 text true h none = none (IsUtf8-from_is_utf8 text h)
by_utf8 text false h none = refl

no_document : (text : List ℕ) → (IsUtf8 text → parse_document text ≡ None) → table_of text ≡ None
unfolding table_of
no_document text none = by_utf8 text (is_utf8 text) refl none

pub not_toml : (text : List ℕ) → (IsUtf8 text → parse_document text ≡ None) → settings_of text ≡ Err NotToml
not_toml text none = ap settings_or_not_toml (no_document text none)

pub told_settings : (r due said : Result Settings SettingsFail) → IsAnswer r due → said ≡ due → IfOk r (λ settings. said ≡ Ok settings)
told_settings (Ok settings) due said h same = same ∙ h
told_settings (Err fault) due said h same = tt

pub told_fault : (r due said : Result Settings SettingsFail) → IsAnswer r due → said ≡ due → IfErr r (λ fault. fault ≢ NoMemory → said ≡ Err fault)
told_fault (Ok settings) due said h same = tt
told_fault (Err fault) due said h same = λ other. same ∙ h other
