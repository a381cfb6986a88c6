-- The settings that a text says, or its first fault.
use Rattle.std.specs.Prelude.{ℕ, List, [], if◌then◌else◌, Option, Some, None, Result, Ok, Err}
use Rattle.std.specs.Str.{is_utf8}
use Rattle.toml.specs.Data.{Data, table, Members}
use Rattle.toml.specs.Parse.{parse_document}
use Rattle.rd_base.specs.declared.values.Limits.{Limits}
use Rattle.rd_base.specs.declared.values.MaskLimits.{MaskLimits}
use Rattle.rd_base.specs.declared.names.NameRules.{NameRules}
use Rattle.rd_conf.specs.declared.key.Key.{Key}
use Rattle.rd_conf.specs.declared.key.Key.TheVariants.{Version, Copies, Incoming, Outgoing, UnitMax, ExchangesMax, IdleMs, RequestMs, GatherMs, ReplyMs, HttpPass, FirmNames, FreeNames, MaskedMax, MaskedBytes, Ports as PortsKey, PortsListen, PortsInstances, PortsCallers, PortsBackend, PortsOperator, PortsRecords}
use Rattle.rd_conf.specs.declared.settings.Ports.{Ports}
use Rattle.rd_conf.specs.declared.settings.Settings.{Settings}
use Rattle.rd_conf.specs.declared.settings.SettingsFail.{SettingsFail}
use Rattle.rd_conf.specs.declared.settings.SettingsFail.TheVariants.{NotToml, WrongKind}
use Rattle.rd_conf.specs.Answers.{◌>>=◌}
use Rattle.rd_conf.specs.Rows.{value_at, integer_or, required_integer, dialect_or_line, address_or_none}
use Rattle.rd_conf.specs.Lists.{texts_if, are_names, are_free_names, are_addresses, are_addresses_or_none}
use Rattle.rd_conf.specs.Unknown.{known_keys}

-- a time in milliseconds, at most a day
unfoldable pub wait_or : ℕ → Key → Members → Result ℕ SettingsFail
wait_or default key members = integer_or default key 1 86400000 (value_at key members)

-- 64 masked places, of tokens of at most 128 bytes: the defaults, and the most
abbrev pub most_masked : MaskLimits
most_masked = record { places = 64; bytes = 128 }

-- the limits of a session, but for those of masks
unfoldable pub limits_of : ℕ → Members → Result Limits SettingsFail
limits_of copies members =
    integer_or 1048576 UnitMax 1024 8388608 (value_at UnitMax members) >>= (λ unit_max.
    integer_or 10000 ExchangesMax 1 65536 (value_at ExchangesMax members) >>= (λ exchanges_max.
    wait_or 60000 IdleMs members >>= (λ idle_ms.
    wait_or 30000 RequestMs members >>= (λ request_ms.
    wait_or 5000 GatherMs members >>= (λ gather_ms.
    wait_or 30000 ReplyMs members >>= (λ reply_ms.
    Ok (record {
      copies = copies;
      unit_max = unit_max;
      exchanges_max = exchanges_max;
      idle_ms = idle_ms;
      request_ms = request_ms;
      gather_ms = gather_ms;
      reply_ms = reply_ms;
      mask = most_masked;
    })))))))

unfoldable pub mask_limits_of : Members → Result MaskLimits SettingsFail
mask_limits_of members =
    integer_or 64 MaskedMax 0 64 (value_at MaskedMax members) >>= (λ places.
    integer_or 128 MaskedBytes 1 128 (value_at MaskedBytes members) >>= (λ bytes.
    Ok (record { places = places; bytes = bytes })))

unfoldable pub rules_of : Members → Result NameRules SettingsFail
rules_of members =
    texts_if HttpPass are_names (value_at HttpPass members) >>= (λ pass.
    texts_if FirmNames are_names (value_at FirmNames members) >>= (λ firm.
    texts_if FreeNames (are_free_names firm) (value_at FreeNames members) >>= (λ free.
    Ok (record { pass = pass; firm = firm; free = free }))))

unfoldable pub ports_in : ℕ → Members → Result Ports SettingsFail
ports_in copies members =
    address_or_none PortsListen (value_at PortsListen members) >>= (λ listen.
    texts_if PortsInstances (are_addresses copies) (value_at PortsInstances members) >>= (λ instances.
    texts_if PortsCallers (are_addresses_or_none copies) (value_at PortsCallers members) >>= (λ callers.
    address_or_none PortsBackend (value_at PortsBackend members) >>= (λ backend.
    address_or_none PortsOperator (value_at PortsOperator members) >>= (λ operator.
    address_or_none PortsRecords (value_at PortsRecords members) >>= (λ records.
    Ok (record {
      listen = listen;
      instances = instances;
      callers = callers;
      backend = backend;
      operator = operator;
      records = records;
    })))))))

abbrev pub no_ports : Ports
no_ports = record { listen = []; instances = []; callers = []; backend = []; operator = []; records = [] }

-- the ports, for so many copies
unfoldable pub ports_of : ℕ → Option Data → Result Ports SettingsFail
ports_of copies None = Ok no_ports
ports_of copies (Some (table members)) = ports_in copies members
ports_of copies (Some _) = Err (WrongKind PortsKey)

-- the settings that a table says, or its first fault: an unknown key, then key by key in this order
unfoldable pub settings_in : Members → Result Settings SettingsFail
settings_in members =
    known_keys members >>= (λ _.
    required_integer Version 1 2 (value_at Version members) >>= (λ version.
    integer_or 3 Copies 3 8 (value_at Copies members) >>= (λ copies.
    dialect_or_line Incoming (value_at Incoming members) >>= (λ incoming.
    dialect_or_line Outgoing (value_at Outgoing members) >>= (λ outgoing.
    limits_of copies members >>= (λ limits.
    rules_of members >>= (λ rules.
    mask_limits_of members >>= (λ mask.
    ports_of copies (value_at PortsKey members) >>= (λ ports.
    Ok (record {
      limits = record limits { mask = mask };
      incoming = incoming;
      outgoing = outgoing;
      rules = rules;
      ports = ports;
    }))))))))))

-- the table that a text is, where it is a TOML document in UTF-8
unfoldable pub table_of : List ℕ → Option Members
table_of text = if is_utf8 text then parse_document text else None

abbrev pub settings_or_not_toml : Option Members → Result Settings SettingsFail
settings_or_not_toml None = Err NotToml
settings_or_not_toml (Some members) = settings_in members

-- the settings that a text says, or its first fault
abbrev pub settings_of : List ℕ → Result Settings SettingsFail
settings_of text = settings_or_not_toml (table_of text)
