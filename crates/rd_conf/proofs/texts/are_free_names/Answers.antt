use Rattle.std.proofs.Common.{◌∙◌, sym}
use Rattle.rd_conf.proofs.TextLemmas.{free_from_values}
use Rattle.rd_conf.proofs.texts.are_free_names.Goals as goal

pub returns-then-are_names : goal.returns-then-are_names
returns-then-are_names c =
    free_from_values c.args.firm.now c.are_apart.result c.args.items.now (sym c.are_names.ensures ∙ c.if-are_names.true) c.are_apart.ensures
