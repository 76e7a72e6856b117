use Rattle.std.proofs.Common.{rules}
use Rattle.std.proofs.lemmas.List.Sorted.{IsNonDecreasingBy-from_sort_by_key}
use Rattle.office_signals.specs.Sorted.{place_rank}
use Rattle.office_signals.proofs.start.sorted_places.Goals as goal

pub returns-clause-sorted : goal.returns-clause-sorted
returns-clause-sorted c = IsNonDecreasingBy-from_sort_by_key place_rank _ c.sort_unstable_by_key.ensures.sorted
    (λ a r q k. search rules)
