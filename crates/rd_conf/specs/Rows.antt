-- What one key's value means: the setting, or the key's fault.
use Rattle.std.specs.Prelude.{ℕ, pos, negsuc, ◌&&◌, nat_le, Bool, if◌then◌else◌, List, [], length, codes, bytes_eq, Option, Some, None, Result, Ok, Err}
use Rattle.toml.specs.Data.{Data, string, integer, Members, get_member}
use Rattle.rd_conf.specs.declared.key.Key.{Key}
use Rattle.rd_conf.specs.declared.settings.DialectName.{DialectName}
use Rattle.rd_conf.specs.declared.settings.DialectName.TheVariants.{Line, Http, Pg}
use Rattle.rd_conf.specs.declared.settings.SettingsFail.{SettingsFail}
use Rattle.rd_conf.specs.declared.settings.SettingsFail.TheVariants.{Missing, WrongKind, OutOfRange}
use Rattle.rd_conf.specs.Keys.{key_word}

-- what stands under a key of a table
unfoldable pub value_at : Key → Members → Option Data
value_at key members = get_member (key_word key) members

-- a whole number from `least` to `most`
abbrev pub integer_of : Key → ℕ → ℕ → Data → Result ℕ SettingsFail
integer_of key least most (integer (pos n)) = if nat_le least n && nat_le n most then Ok n else Err (OutOfRange key)
integer_of key least most (integer (negsuc n)) = Err (OutOfRange key)
integer_of key least most _ = Err (WrongKind key)

-- a key that may be absent has a default
abbrev pub integer_or : ℕ → Key → ℕ → ℕ → Option Data → Result ℕ SettingsFail
integer_or default key least most None = Ok default
integer_or default key least most (Some value) = integer_of key least most value

abbrev pub required_integer : Key → ℕ → ℕ → Option Data → Result ℕ SettingsFail
required_integer key least most None = Err (Missing key)
required_integer key least most (Some value) = integer_of key least most value

-- the dialects that a settings file can name
abbrev pub dialect_of : Key → List ℕ → Result DialectName SettingsFail
dialect_of key word =
    if bytes_eq word (codes "line") then Ok Line
    else if bytes_eq word (codes "http") then Ok Http
    else if bytes_eq word (codes "pg") then Ok Pg
    else Err (OutOfRange key)

abbrev pub dialect_or_line : Key → Option Data → Result DialectName SettingsFail
dialect_or_line key None = Ok Line
dialect_or_line key (Some (string word)) = dialect_of key word
dialect_or_line key (Some _) = Err (WrongKind key)

-- 1 to 255 bytes
abbrev pub is_address : List ℕ → Bool
is_address text = nat_le 1 (length text) && nat_le (length text) 255

-- a text, which is empty where its key is absent
abbrev pub address_or_none : Key → Option Data → Result (List ℕ) SettingsFail
address_or_none key None = Ok []
address_or_none key (Some (string text)) = if is_address text then Ok text else Err (OutOfRange key)
address_or_none key (Some _) = Err (WrongKind key)
