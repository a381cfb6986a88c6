-- The settings of a file that says its version alone.
use Rattle.std.proofs.Common.{◌≡◌, ◌∙◌, pos, true, Some, Ok, codes, refl, ap}
use Rattle.std.specs.Str.{is_utf8, chars}
use lib.Utf8.{encode}
use Rattle.toml.specs.Data.{Members, member, integer, no_members}
use Rattle.toml.specs.Parse.{parse_document}
use Rattle.toml.proofs.OnLiterals.{toml_on_literals}
use Rattle.rd_conf.specs.Keys.{is_top_key}
use Rattle.rd_conf.specs.Rows.{value_at}
use Rattle.rd_conf.specs.Unknown.{known_keys, unknown_top_key, unknown_port_key}
use Rattle.rd_conf.specs.Settings.{settings_of, settings_in, settings_or_not_toml, table_of, limits_of, wait_or, rules_of, mask_limits_of, ports_of}
use Rattle.rd_conf.specs.Defaults.{default_settings}

abbrev version_1 : Members
version_1 = member (codes "version") (integer (pos 1)) no_members

parsed : parse_document (codes "version = 1\n") ≡ Some version_1
unfolding toml_on_literals
parsed = refl

utf8 : is_utf8 (codes "version = 1\n") ≡ true
unfolding is_utf8 chars encode
utf8 = refl

table : table_of (codes "version = 1\n") ≡ Some version_1
unfolding table_of
table = rw utf8 parsed

settings : settings_in version_1 ≡ Ok default_settings
unfolding settings_in known_keys unknown_top_key unknown_port_key is_top_key value_at limits_of wait_or rules_of mask_limits_of ports_of
settings = refl

pub first_version : settings_of (codes "version = 1\n") ≡ Ok default_settings
first_version = ap settings_or_not_toml table ∙ settings
