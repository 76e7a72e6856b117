use Rattle.dbc_read.proofs.Common.{◌≡◌, [], replicate}
use Rattle.dbc_read.proofs.gathered.no_entries.Given as goal

abbrev pub invariant-loop-index : goal.invariant-loop-index
invariant-loop-index l = l.lists.items ≡ replicate l._index []
