use Rattle.page_numbers.proofs.Common.{◌≤◌, GrantedBlock}
use Rattle.std.specs.List.{AllAdjacentBelow}
use Rattle.page_numbers.specs.Ordered.{high, low}
use Rattle.page_numbers.proofs.near.are_ordered.Given as goal

abbrev pub invariant-loop-index : goal.invariant-loop-index
invariant-loop-index l = record {
  rising : AllAdjacentBelow (λ (a b : GrantedBlock). low a ≤ low b) l.blocks l.index;
  ending : AllAdjacentBelow (λ (a b : GrantedBlock). high a ≤ high b) l.blocks l.index;
}
