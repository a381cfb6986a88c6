use Rattle.rd_keeper.proofs.Firsts.{follows_puts, keeps_firsts, keeps_nothing_else}
use Rattle.rd_keeper.proofs.laws.keeper_laws.Goals as goal

pub returns : goal.returns
returns c = record { firsts = keeps_firsts; nothing_else = keeps_nothing_else; puts = follows_puts }
