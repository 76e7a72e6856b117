use Rattle.page_messages.proofs.Common.{ap, ◌∙◌, ◌==◌, sym, eqb}
use Rattle.std.proofs.lemmas.List.Filters.{dedup_is}
use Rattle.std.proofs.lemmas.List.Sorted.{list_any-IsPermutation}
use Rattle.std.proofs.lemmas.Map.Keys.{IsStrictlyIncreasing-dedup}
use Rattle.page_messages.proofs.Values.{has, has-dedup, has-filter_map}
use Rattle.page_messages.proofs.layouts.values_of.Goals as goal

pub returns : goal.returns
returns c = record {
  rising = rw (dedup_is eqb _ _ c.dedup.ensures.filtered) (IsStrictlyIncreasing-dedup _ c.in_ok-sort.ensures.sorted);
  each = λ n. ap (has n) (dedup_is eqb _ _ c.dedup.ensures.filtered) ∙ has-dedup n _
      ∙ sym (list_any-IsPermutation (λ v. v == n) _ _ c.in_ok-sort.ensures.permutation)
      ∙ ap (has n) c.in_ok-values.ensures ∙ has-filter_map n c.args.signals.now;
}
