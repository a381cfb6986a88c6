use Rattle.std.proofs.Common.{◌∙◌, ap}
use Rattle.toml.specs.Data.{get_member}
use Rattle.toml.specs.View.{members_view}
use Rattle.toml.proofs.Views.{table_get}
use Rattle.rd_conf.specs.Rows.{value_at}
use Rattle.rd_conf.proofs.rows.value_at.Goals as goal

pub returns : goal.returns
unfolding value_at
returns c =
    table_get c.get.result c.word.result.now c.args.table.now.entries c.get.ensures.value
    ∙ ap (λ word. get_member word (members_view c.args.table.now.entries)) c.word.ensures
