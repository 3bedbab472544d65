use Rattle.std.proofs.Common.{rules}
use Rattle.std.proofs.lemmas.List.Sorted.{IsPartitionPoint-from_clause}
use Rattle.hb_branch.proofs.Ranks.{below, partitioned, rank_is}
use Rattle.hb_branch.proofs.branch.position.Goals as goal

pub returns-clause-rank : goal.returns-clause-rank
returns-clause-rank c =
    rank_is c.args.place.now c.args.list.now c.partition_point.result c.partition_point.ensures.bound
    (IsPartitionPoint-from_clause (below c.args.place.now) c.args.list.now c.partition_point.result c.partition_point.ensures.partitioned
    (partitioned c.args.place.now c.args.list.now c.requires) (λ a r f' t. search rules))
