use Rattle.page_messages.proofs.Common.{leb, ltb, rules, List, subst, sym, ◌∙◌, IsNonDecreasingBy}
use Rattle.std.proofs.lemmas.List.Sorted.{IsNonDecreasingBy-drop, IsPartitionPoint-from_clause, IsPartitionedBy-leb}
use Rattle.std.proofs.lemmas.List.Sorted.{IsPartitionedBy-ltb}
use Rattle.page_messages.specs.Layouts.{place_of}
use Rattle.page_messages.specs.declared.bits.Held.{Held}
use Rattle.page_messages.proofs.Places.{between}
use Rattle.page_messages.proofs.bits.held_at.Goals as goal

pub returns : goal.returns
returns c rising =
    let held = c.args.held.now in
    let place = c.args.place in
    let i = c.partition_point-before.result in
    let rest = c.split_at.result.1.now in
    let rises : IsNonDecreasingBy place_of rest =
    subst (λ (v : List Held). IsNonDecreasingBy place_of v) (sym c.split_at.ensures.back)
    (IsNonDecreasingBy-drop place_of i held rising) in
    c.split_at-2.ensures.front
    ∙ between place held rest i c.partition_point-count.result c.partition_point-before.ensures.bound
    c.split_at.ensures.back
    (IsPartitionPoint-from_clause (λ y. ltb (place_of y) place) held i c.partition_point-before.ensures.partitioned
    (IsPartitionedBy-ltb place_of held place rising) (λ a r q k. search rules))
    (IsPartitionPoint-from_clause (λ y. leb (place_of y) place) rest c.partition_point-count.result
    c.partition_point-count.ensures.partitioned (IsPartitionedBy-leb place_of rest place rises) (λ a r q k. search rules))
    c.partition_point-count.ensures.bound
