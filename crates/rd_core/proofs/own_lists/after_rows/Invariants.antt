use Rattle.std.proofs.Common.{◌≡◌, take}
use Rattle.rd_rules.specs.Given.{learnt}
use Rattle.rd_core.specs.OwnLists.{latest_of}
use Rattle.rd_core.proofs.own_lists.after_rows.Given as goal

abbrev pub invariant-loop-place : goal.invariant-loop-place
invariant-loop-place l = l.later ≡ learnt (latest_of l.own l.before) (take l.place l.rows)
