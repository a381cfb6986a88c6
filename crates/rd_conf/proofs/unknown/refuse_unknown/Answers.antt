use Rattle.std.proofs.Common.{◌≡◌, ◌∙◌, sym, ap, Some, None, option_map}
use Rattle.toml.specs.View.{table_view}
use Rattle.rd_conf.specs.declared.key.Key.TheVariants.{Ports}
use Rattle.rd_conf.specs.Rows.{value_at}
use Rattle.rd_conf.specs.Unknown.{unknown_top_key, unknown_port_key}
use Rattle.rd_conf.proofs.KeyLemmas.{top_unknown, port_unknown, all_known}
use Rattle.rd_conf.proofs.unknown.refuse_unknown.Goals as goal

pub returns-in-Some : goal.returns-in-Some
returns-in-Some c =
    let members = table_view c.args.table.now in
    let top : Some c.in-Some.key.now ≡ unknown_top_key members = sym (ap (option_map (λ key. key.now)) c.in-Some.is) ∙ c.unknown_top_key.ensures in
    λ h. top_unknown members c.in-Some.key.now c.in_ok-from_slice.field-0 top (c.in_ok-from_slice.ensures ∙ c.as_bytes.ensures.value)

pub returns-in-Some-unknown_port_key : goal.returns-in-Some-unknown_port_key
returns-in-Some-unknown_port_key c =
    let members = table_view c.args.table.now in
    let top : None ≡ unknown_top_key members = sym (ap (option_map (λ key. key.now)) c.in_default.is) ∙ c.unknown_top_key.ensures in
    let port : Some c.in-Some-unknown_port_key.key.now ≡ unknown_port_key (value_at Ports members) =
    sym (ap (option_map (λ key. key.now)) c.in-Some-unknown_port_key.is) ∙ c.unknown_port_key.ensures in
    λ h. port_unknown members c.in-Some-unknown_port_key.key.now c.in_ok-port_name.field-0 top port c.in_ok-port_name.ensures

pub returns : goal.returns
returns c =
    let members = table_view c.args.table.now in
    let top : None ≡ unknown_top_key members = sym (ap (option_map (λ key. key.now)) c.in_default.is) ∙ c.unknown_top_key.ensures in
    let port : None ≡ unknown_port_key (value_at Ports members) =
    sym (ap (option_map (λ key. key.now)) c.in_default-unknown_port_key.is) ∙ c.unknown_port_key.ensures in
    all_known members top port
