-- The keys of a settings file.
use Rattle.std.specs.Prelude.{ℕ, ◌||◌, ◌&&◌, Bool, List, [], ◌∷◌, ◌++◌, codes, bytes_eq}
use Rattle.std.specs.List.{list_any}
use Rattle.rd_conf.specs.declared.key.Key.{Key}
use Rattle.rd_conf.specs.declared.key.Key.TheVariants.{Version, Copies, Incoming, Outgoing, UnitMax, ExchangesMax, IdleMs, RequestMs, GatherMs, ReplyMs, HttpPass, FirmNames, FreeNames, MaskedMax, MaskedBytes, Ports, PortsListen, PortsInstances, PortsCallers, PortsBackend, PortsOperator, PortsRecords}

-- the key as it stands in its table
abbrev pub key_word : Key → List ℕ
key_word Version = codes "version"
key_word Copies = codes "copies"
key_word Incoming = codes "incoming"
key_word Outgoing = codes "outgoing"
key_word UnitMax = codes "unit_max"
key_word ExchangesMax = codes "exchanges_max"
key_word IdleMs = codes "idle_ms"
key_word RequestMs = codes "request_ms"
key_word GatherMs = codes "gather_ms"
key_word ReplyMs = codes "reply_ms"
key_word HttpPass = codes "http_pass"
key_word FirmNames = codes "firm_names"
key_word FreeNames = codes "free_names"
key_word MaskedMax = codes "masked_max"
key_word MaskedBytes = codes "masked_bytes"
key_word Ports = codes "ports"
key_word PortsListen = codes "listen"
key_word PortsInstances = codes "instances"
key_word PortsCallers = codes "callers"
key_word PortsBackend = codes "backend"
key_word PortsOperator = codes "operator"
key_word PortsRecords = codes "records"

-- a key of the table of ports, as it is printed
abbrev pub port_name : List ℕ → List ℕ
port_name word = codes "ports." ++ word

-- the key as it is printed
abbrev pub key_name : Key → List ℕ
key_name PortsListen = port_name (codes "listen")
key_name PortsInstances = port_name (codes "instances")
key_name PortsCallers = port_name (codes "callers")
key_name PortsBackend = port_name (codes "backend")
key_name PortsOperator = port_name (codes "operator")
key_name PortsRecords = port_name (codes "records")
key_name key = key_word key

-- the keys of the top table that every version has
abbrev pub top_keys : List Key
top_keys =
    Version ∷ Copies ∷ Incoming ∷ Outgoing ∷ UnitMax ∷ ExchangesMax
    ∷ IdleMs ∷ RequestMs ∷ GatherMs ∷ ReplyMs ∷ HttpPass ∷ Ports ∷ []

-- the keys of the top table that version 2 has besides
abbrev pub version_2_keys : List Key
version_2_keys = FirmNames ∷ FreeNames ∷ MaskedMax ∷ MaskedBytes ∷ []

abbrev pub port_keys : List Key
port_keys = PortsListen ∷ PortsInstances ∷ PortsCallers ∷ PortsBackend ∷ PortsOperator ∷ PortsRecords ∷ []

-- the word is one of these keys
abbrev pub is_one_of : List Key → List ℕ → Bool
is_one_of keys word = list_any (λ key. bytes_eq (key_word key) word) keys

-- the top table has this key, in version 2 or in version 1
unfoldable pub is_top_key : Bool → List ℕ → Bool
is_top_key second word = is_one_of top_keys word || (second && is_one_of version_2_keys word)

unfoldable pub is_port_key : List ℕ → Bool
is_port_key word = is_one_of port_keys word
