use Rattle.dbc_read.proofs.settling.settle_first.Goals as goal

pub returns-in-Some-clause-settles : goal.returns-in-Some-clause-settles
returns-in-Some-clause-settles c = rw c.in-Some.is c.settle.ensures.settles
