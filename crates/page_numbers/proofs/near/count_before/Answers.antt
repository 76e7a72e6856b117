use Rattle.page_numbers.proofs.Common.{◌<◌, ℕ, arith, get_or, ltb, rules, subst, IsPartitionPoint-from_clause}
use Rattle.page_numbers.proofs.Common.{IsPartitionedBy-ltb}
use Rattle.std.proofs.lemmas.Bool.{ltb-true}
use Rattle.page_numbers.specs.Charts.{is_near}
use Rattle.page_numbers.specs.Ordered.{high}
use Rattle.page_numbers.proofs.Nearby.{ends_before, none_before}
use Rattle.page_numbers.proofs.near.count_before.Goals as goal

pub returns-clause-none : goal.returns-clause-none
returns-clause-none c = λ ordered last.
    let blocks = c.args.blocks.now in
    let from = c.key-from.result in
    let split =
    IsPartitionPoint-from_clause (λ g. ltb (high g) from) _ _ c.partition_point.ensures.partitioned
    (IsPartitionedBy-ltb high blocks from (ordered c.if-not-is_ordered.false).ending) (λ a r q k. search rules) in
    none_before (is_near c.args.form c.args.first last) c.partition_point.result blocks
    (λ k d below.
    ends_before c.args.form c.args.first last (get_or blocks k d)
    (subst (λ (v : ℕ). high (get_or blocks k d) < v) c.key-from.ensures
    (ltb-true (high (get_or blocks k d)) from (split.0 k d (omega arith) below))))
    c.partition_point.ensures.bound
