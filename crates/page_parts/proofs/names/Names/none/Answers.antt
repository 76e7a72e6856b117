use Rattle.std.specs.List.Sorted.{IsStrictlySortedBy}
use Rattle.page_parts.proofs.names.Names.none.Goals as goal

pub invariant_of-result : goal.invariant_of-result
unfolding IsStrictlySortedBy
invariant_of-result c = rw c.new.ensures.items tt
