use Rattle.dbc_keep.proofs.completing.with_j1939.Goals as goal

pub returns-then-wanted-clause-fault : goal.returns-then-wanted-clause-fault
returns-then-wanted-clause-fault c = rw c.deref.ensures.value at c.text_with_j1939.ensures.none
