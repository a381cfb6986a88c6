use Rattle.std.proofs.Common.{◌∙◌, sym}
use Rattle.toml.specs.View.{table_view}
use Rattle.toml.specs.Errors.{IsMemory}
use Rattle.std.proofs.lemmas.Bool.{false≢true}
use Rattle.rd_conf.specs.Settings.{settings_in, settings_of}
use Rattle.rd_conf.proofs.Documents.{a_table, not_toml, told_settings, told_fault}
use Rattle.rd_conf.proofs.read.read_settings.Goals as goal

pub returns-in-Ok-clause-settings : goal.returns-in-Ok-clause-settings
returns-in-Ok-clause-settings c =
    let read = c.in-Ok.ensures.ok in
    told_settings c.settings_in.result (settings_in (table_view c.in-Ok.table)) (settings_of c.args.text.now) c.settings_in.ensures.settings
    (a_table c.args.text.now (table_view c.in-Ok.table) read.0 read.1)

pub returns-in-Ok-clause-fault : goal.returns-in-Ok-clause-fault
returns-in-Ok-clause-fault c =
    let read = c.in-Ok.ensures.ok in
    told_fault c.settings_in.result (settings_in (table_view c.in-Ok.table)) (settings_of c.args.text.now) c.settings_in.ensures.settings
    (a_table c.args.text.now (table_view c.in-Ok.table) read.0 read.1)

pub returns-else-is_memory-clause-fault : goal.returns-else-is_memory-clause-fault
returns-else-is_memory-clause-fault c =
    let other = λ (memory : IsMemory c.in-Err.error). absurd (false≢true (sym c.if-is_memory.false ∙ c.is_memory.ensures.1 memory)) in
    λ _. not_toml c.args.text.now (c.in-Err.ensures.refused other)
