use Rattle.dbc_read.proofs.Common.{◌≡◌, replicate}
use Rattle.dbc_read.proofs.gathered.copies.Given as goal

abbrev pub invariant-loop-index : goal.invariant-loop-index
invariant-loop-index g l = l.items.items ≡ replicate l._index l.value
