use Rattle.std.proofs.Common.{◌≡◌, ◌∙◌, sym, ap, not, Some, None, option_map}
use Rattle.toml.specs.Data.{as_table}
use Rattle.toml.specs.View.{view, table_view}
use Rattle.rd_conf.specs.declared.key.Key.TheVariants.{Ports}
use Rattle.rd_conf.specs.Keys.{is_port_key}
use Rattle.rd_conf.specs.Rows.{value_at}
use Rattle.rd_conf.proofs.KeyLemmas.{least_key, ports_seen, ports_absent, ports_other}
use Rattle.rd_conf.proofs.unknown.unknown_port_key.Goals as goal

pub returns-in-Some : goal.returns-in-Some
returns-in-Some c =
    let d = view c.in_ok-value_at.field-0.now in
    let there : Some d ≡ value_at Ports (table_view c.args.table.now) = sym (ap (option_map (λ v. view v.now)) c.in_ok-value_at.was) ∙ c.value_at.ensures in
    let ports : Some (table_view c.in_ok-ports.ports.now) ≡ as_table d = sym (ap (option_map (λ m. table_view m.now)) c.in_ok-ports.was) ∙ c.as_table.ensures in
    let found = least_key (λ key. not (is_port_key key)) c.in_ok-ports.ports.now.entries c.first_not_in_ports.result c.first_not_in_ports.ensures.first c.first_not_in_ports.ensures.ordered in
    rw c.as_str.ensures.value (rw c.in-Some.is at found) ∙ ports_seen (value_at Ports (table_view c.args.table.now)) d (table_view c.in_ok-ports.ports.now) there ports

pub returns-in-None : goal.returns-in-None
returns-in-None c =
    let d = view c.in_ok-value_at.field-0.now in
    let there : Some d ≡ value_at Ports (table_view c.args.table.now) = sym (ap (option_map (λ v. view v.now)) c.in_ok-value_at.was) ∙ c.value_at.ensures in
    let ports : Some (table_view c.in_ok-ports.ports.now) ≡ as_table d = sym (ap (option_map (λ m. table_view m.now)) c.in_ok-ports.was) ∙ c.as_table.ensures in
    let found = least_key (λ key. not (is_port_key key)) c.in_ok-ports.ports.now.entries c.first_not_in_ports.result c.first_not_in_ports.ensures.first c.first_not_in_ports.ensures.ordered in
    (rw c.in-None.is at found) ∙ ports_seen (value_at Ports (table_view c.args.table.now)) d (table_view c.in_ok-ports.ports.now) there ports

pub returns-in_err-value_at : goal.returns-in_err-value_at
returns-in_err-value_at c =
    let absent : None ≡ value_at Ports (table_view c.args.table.now) = sym (ap (option_map (λ v. view v.now)) c.in_err-value_at.was) ∙ c.value_at.ensures in
    rw c.from_residual.ensures (ports_absent (value_at Ports (table_view c.args.table.now)) absent)

pub returns-in_err-ports : goal.returns-in_err-ports
returns-in_err-ports c =
    let d = view c.in_ok-value_at.field-0.now in
    let there : Some d ≡ value_at Ports (table_view c.args.table.now) = sym (ap (option_map (λ v. view v.now)) c.in_ok-value_at.was) ∙ c.value_at.ensures in
    let other : None ≡ as_table d = sym (ap (option_map (λ m. table_view m.now)) c.in_err-ports.was) ∙ c.as_table.ensures in
    rw c.from_residual-in_err-ports.ensures (ports_other (value_at Ports (table_view c.args.table.now)) d there other)
