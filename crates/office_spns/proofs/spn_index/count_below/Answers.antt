use Rattle.std.proofs.Common.{ltb, rules}
use Rattle.std.proofs.lemmas.List.Sorted.{IsPartitionPoint-from_clause, IsPartitionedBy-ltb}
use Rattle.office_spns.specs.SpnIndex.{spn_at}
use Rattle.office_spns.proofs.spn_index.count_below.Goals as goal

pub returns-clause-below : goal.returns-clause-below
returns-clause-below c =
    IsPartitionPoint-from_clause (λ p. ltb (spn_at p) c.args.number) _ _ c.partition_point.ensures.partitioned
    (IsPartitionedBy-ltb spn_at _ c.args.number c.requires) (λ a r q k. search rules)
