use Rattle.dbc_keep.proofs.completing.with_staying.Goals as goal

pub returns-in-Some-clause-made : goal.returns-in-Some-clause-made
returns-in-Some-clause-made c = rw c.in-Some.is (c.with_original.ensures.made c.args.text.items)

pub returns-in-Some-clause-fault : goal.returns-in-Some-clause-fault
returns-in-Some-clause-fault c = rw c.in-Some.is c.with_original.ensures.fault
