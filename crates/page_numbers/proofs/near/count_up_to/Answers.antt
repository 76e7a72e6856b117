use Rattle.page_numbers.proofs.Common.{◌<◌, ℕ, get_or, leb, rules, subst, IsPartitionPoint-from_clause}
use Rattle.std.proofs.lemmas.Bool.{leb-false}
use Rattle.std.proofs.lemmas.List.Sorted.{IsPartitionedBy-leb}
use Rattle.page_numbers.specs.Charts.{is_near}
use Rattle.page_numbers.specs.Ordered.{low}
use Rattle.page_numbers.proofs.Nearby.{begins_after, none_after}
use Rattle.page_numbers.proofs.near.count_up_to.Goals as goal

pub returns-clause-none : goal.returns-clause-none
returns-clause-none c = λ ordered first.
    let blocks = c.args.blocks.now in
    let to = c.key-to.result in
    let split =
    IsPartitionPoint-from_clause (λ g. leb (low g) to) _ _ c.partition_point.ensures.partitioned
    (IsPartitionedBy-leb low blocks to (ordered c.if-not-is_ordered.false).rising) (λ a r q k. search rules) in
    none_after (is_near c.args.form first c.args.last) c.partition_point.result blocks
    (λ k d above below.
    begins_after c.args.form first c.args.last (get_or blocks k d)
    (subst (λ (v : ℕ). v < low (get_or blocks k d)) c.key-to.ensures
    (leb-false (low (get_or blocks k d)) to (split.1 k d above below))))
