use Rattle.page_numbers.proofs.Common.{ltb, rules, IsPartitionPoint-from_clause, IsPartitionedBy-ltb}
use Rattle.page_numbers.specs.Index.{number_at}
use Rattle.page_numbers.proofs.index.count_below.Goals as goal

pub returns-clause-below : goal.returns-clause-below
returns-clause-below c =
    IsPartitionPoint-from_clause (λ p. ltb (number_at p) c.args.number) _ _ c.partition_point.ensures.partitioned
    (IsPartitionedBy-ltb number_at _ c.args.number c.requires) (λ a r q k. search rules)
