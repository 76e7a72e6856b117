use Rattle.page_numbers.proofs.Common.{rules}
use Rattle.std.proofs.lemmas.List.Sorted.{IsNonDecreasingBy-from_sort_by_key, answers_always, length_permutation}
use Rattle.page_numbers.specs.Index.{number_at}
use Rattle.page_numbers.proofs.Places.{in_order}
use Rattle.page_numbers.proofs.index.LiveIndex.of.Goals as goal

pub invariant_of-result : goal.invariant_of-result
invariant_of-result c =
    in_order c.args.form c.args.messages.now c.in_ok-places.places.items c.sort_by_key.new.self.items c.in_ok-places.ensures
    (IsNonDecreasingBy-from_sort_by_key number_at _ c.in_ok-sort_by_key.ensures.sorted (λ a r q k. search rules))
    (c.sort_by_key.ensures.stable number_at (answers_always _ _ _ (λ f a r q k. search rules)))
    (length_permutation _ _ c.sort_by_key.ensures.permutation)
