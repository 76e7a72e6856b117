use Rattle.dbc_read.proofs.Common.{◌≡◌, ◌++◌, drop, length}
use Rattle.dbc_read.specs.Lookup.{with_indices}
use Rattle.dbc_read.proofs.lookup.lookup_of.Given as goal

abbrev pub invariant-loop-key : goal.invariant-loop-key
invariant-loop-key g l = l.sorted.items ++ with_indices (length l.sorted.items) (drop l.key-index l.key-items)
    ≡ with_indices 0 l.key-items
