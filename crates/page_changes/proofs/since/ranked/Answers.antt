use Rattle.page_changes.proofs.Common.{rules, answers_always}
use Rattle.page_changes.specs.Changes.{breaking_in, list_of}
use Rattle.page_changes.proofs.since.ranked.Goals as goal

pub returns : goal.returns
returns c = record {
  same = c.in_ok-sort_by_cached_key.ensures.permutation;
  falling = c.in_ok-sort_by_cached_key.ensures.sorted (λ m. record { 0 = breaking_in (list_of m) })
      (answers_always _ _ _ (λ f a r g called. search rules));
  stable = c.in_ok-sort_by_cached_key.ensures.stable (λ m. record { 0 = breaking_in (list_of m) })
      (answers_always _ _ _ (λ f a r g called. search rules));
}
