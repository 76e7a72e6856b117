use Rattle.dbc_read.proofs.signals.signals_of.Goals as goal

pub returns-in-None-clause-refused : goal.returns-in-None-clause-refused
returns-in-None-clause-refused c = λ fit. (rw c.in-None.is at c.in_ok-made.ensures) fit.together
