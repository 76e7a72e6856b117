use Rattle.dbc_read.proofs.Common.{◌≡◌, [], replicate}
use Rattle.dbc_read.proofs.gathered.no_texts.Given as goal

abbrev pub invariant-loop-index : goal.invariant-loop-index
invariant-loop-index l = l.texts.items ≡ replicate l._index []
