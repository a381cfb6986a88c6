-- What is served where a settings file says nothing.
use Rattle.std.specs.Prelude.{[]}
use Rattle.rd_base.specs.declared.values.Limits.{Limits}
use Rattle.rd_base.specs.declared.names.NameRules.{NameRules}
use Rattle.rd_conf.specs.declared.settings.DialectName.TheVariants.{Line}
use Rattle.rd_conf.specs.declared.settings.Settings.{Settings}
use Rattle.rd_conf.specs.Settings.{most_masked, no_ports}

-- three instances; 1 MiB of open bytes; 10,000 exchanges; a minute without requests, and 30, 5 and 30 seconds for a
-- request, for the copies to agree and for a reply; 64 masked places of at most 128 bytes
abbrev pub default_limits : Limits
default_limits = record {
  copies = 3;
  unit_max = 1048576;
  exchanges_max = 10000;
  idle_ms = 60000;
  request_ms = 30000;
  gather_ms = 5000;
  reply_ms = 30000;
  mask = most_masked;
}

abbrev pub no_names : NameRules
no_names = record { pass = []; firm = []; free = [] }

-- plain lines under these limits, without names and ports
abbrev pub default_settings : Settings
default_settings = record {
  limits = default_limits;
  incoming = Line;
  outgoing = Line;
  rules = no_names;
  ports = no_ports;
}
