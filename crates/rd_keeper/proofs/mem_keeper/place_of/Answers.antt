use Rattle.std.proofs.Common.{rules}
use Rattle.std.proofs.lemmas.List.Sorted.{IsPartitionPoint-from_clause, IsPartitionedBy-ltb}
use Rattle.rd_keeper.specs.Notes.{is_below}
use Rattle.rd_keeper.proofs.Rising.{rising_by_index, split_below, split_from}
use Rattle.rd_keeper.proofs.mem_keeper.place_of.Goals as goal

pub returns-clause-below : goal.returns-clause-below
returns-clause-below c =
    split_below c.args.id c.args.notes.now c.partition_point.result c.partition_point.ensures.bound
    (IsPartitionPoint-from_clause (is_below c.args.id) c.args.notes.now c.partition_point.result c.partition_point.ensures.partitioned (IsPartitionedBy-ltb (λ n. n.id) c.args.notes.now c.args.id (rising_by_index c.args.notes.now c.requires)) (λ a r q k. search rules))

pub returns-clause-from : goal.returns-clause-from
returns-clause-from c =
    split_from c.args.id c.args.notes.now c.partition_point.result c.partition_point.ensures.bound
    (IsPartitionPoint-from_clause (is_below c.args.id) c.args.notes.now c.partition_point.result c.partition_point.ensures.partitioned (IsPartitionedBy-ltb (λ n. n.id) c.args.notes.now c.args.id (rising_by_index c.args.notes.now c.requires)) (λ a r q k. search rules))
