use Rattle.std.proofs.Common.{not}
use Rattle.rd_conf.specs.Keys.{is_top_key}
use Rattle.rd_conf.specs.Unknown.{unknown_top_key}
use Rattle.rd_conf.proofs.KeyLemmas.{least_key}
use Rattle.rd_conf.proofs.unknown.unknown_top_key.Goals as goal

pub returns-in-Some : goal.returns-in-Some
unfolding unknown_top_key
returns-in-Some c =
    let found = least_key (λ key. not (is_top_key c.is_second-second.result key)) c.args.table.now.entries c.first_not_in_top.result c.first_not_in_top.ensures.first c.first_not_in_top.ensures.ordered in
    rw (c.as_str.ensures.value, ← c.is_second-second.ensures) (rw c.in-Some.is at found)

pub returns-in-None : goal.returns-in-None
unfolding unknown_top_key
returns-in-None c =
    let found = least_key (λ key. not (is_top_key c.is_second-second.result key)) c.args.table.now.entries c.first_not_in_top.result c.first_not_in_top.ensures.first c.first_not_in_top.ensures.ordered in
    rw (← c.is_second-second.ensures) (rw c.in-None.is at found)
