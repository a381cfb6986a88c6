-- Keys that a settings file can't have.
use Rattle.std.specs.Prelude.{ℕ, pos, ◌==◌, not, Bool, false, if◌then◌else◌, List, [], ◌∷◌, Option, Some, None, option_map, Result, Ok, Err}
use Rattle.std.specs.List.{filter}
use Rattle.std.specs.Ordering.{nat_cmp, is_lt}
use Rattle.std.specs.Cmp.Lexicographic.{slice_cmp}
use Rattle.toml.specs.Data.{Data, integer, table, Members, no_members, member}
use Rattle.rd_conf.specs.declared.key.Key.TheVariants.{Version, Ports}
use Rattle.rd_conf.specs.declared.settings.SettingsFail.{SettingsFail}
use Rattle.rd_conf.specs.declared.settings.SettingsFail.TheVariants.{Unknown}
use Rattle.rd_conf.specs.Answers.{◌>>=◌}
use Rattle.rd_conf.specs.Keys.{port_name, is_top_key, is_port_key}
use Rattle.rd_conf.specs.Rows.{value_at}

abbrev pub keys : Members → List (List ℕ)
keys no_members = []
keys (member key value more) = key ∷ keys more

-- the lesser of two texts in the order of their bytes
abbrev pub lesser : List ℕ → Option (List ℕ) → List ℕ
lesser text None = text
lesser text (Some other) = if is_lt (slice_cmp nat_cmp other text) then other else text

-- the least of some texts
abbrev pub least : List (List ℕ) → Option (List ℕ)
least [] = None
least (text ∷ more) = Some (lesser text (least more))

-- the integer 2
abbrev pub is_second : Option Data → Bool
is_second (Some (integer (pos n))) = n == 2
is_second _ = false

-- the least key of the top table that isn't known in its version
unfoldable pub unknown_top_key : Members → Option (List ℕ)
unknown_top_key members = least (filter (λ key. not (is_top_key (is_second (value_at Version members)) key)) (keys members))

-- the least key of the table of ports that isn't known
unfoldable pub unknown_port_key : Option Data → Option (List ℕ)
unknown_port_key (Some (table ports)) = least (filter (λ key. not (is_port_key key)) (keys ports))
unknown_port_key _ = None

abbrev pub refused : Option (List ℕ) → Result (Unit {0}) SettingsFail
refused None = Ok tt
refused (Some key) = Err (Unknown key)

-- every key is known; a key of the top table is looked at before one of the ports
unfoldable pub known_keys : Members → Result (Unit {0}) SettingsFail
known_keys members =
    refused (unknown_top_key members) >>= (λ _. refused (option_map port_name (unknown_port_key (value_at Ports members))))
