use Rattle.office_blocks.proofs.Common.{ap, ◌∙◌, sym, ◌==◌, is_taken}
use Rattle.std.proofs.Common.{eqb}
use Rattle.std.proofs.lemmas.List.Filters.{dedup_is}
use Rattle.std.proofs.lemmas.List.Sorted.{list_any-IsPermutation}
use Rattle.std.proofs.lemmas.Map.Keys.{IsStrictlyIncreasing-dedup}
use Rattle.office_facts.proofs.Least.{is_taken-dedup}
use Rattle.office_blocks.proofs.numbers.sorted.Goals as goal

pub returns-clause-rising : goal.returns-clause-rising
returns-clause-rising c =
    rw (dedup_is eqb _ _ c.dedup.ensures.filtered) (IsStrictlyIncreasing-dedup _ c.in_ok-sort.ensures.sorted)

pub returns-clause-same : goal.returns-clause-same
returns-clause-same c = λ n.
    ap (is_taken n) (dedup_is eqb _ _ c.dedup.ensures.filtered)
    ∙ is_taken-dedup n _
    ∙ sym (list_any-IsPermutation (λ m. m == n) _ _ c.in_ok-sort.ensures.permutation)
