use Rattle.page_numbers.proofs.Common.{arith}
use Rattle.std.proofs.lemmas.List.Sorted.{IsNonDecreasingBy-from_all_adjacent}
use Rattle.page_numbers.specs.Ordered.{high, low}
use Rattle.page_numbers.proofs.near.are_ordered.Goals as goal

pub returns : goal.returns
returns c = λ is. record {
  rising = IsNonDecreasingBy-from_all_adjacent low c.args.blocks.now
      (λ k d below. c.loop-index.invariant.rising k d (omega arith));
  ending = IsNonDecreasingBy-from_all_adjacent high c.args.blocks.now
      (λ k d below. c.loop-index.invariant.ending k d (omega arith));
}
