use Rattle.desk.proofs.local_port.LocalPortListener.accept.Goals as goal

pub returns-clause-one : goal.returns-clause-one
returns-clause-one g c = (c.in-Ok.stream, c.in-Ok.ensures.taken, c.in_ok-sides.ensures.same)
