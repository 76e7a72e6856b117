use Rattle.desk_advice.proofs.fronts.front_of.Goals as goal

pub returns : goal.returns
returns c = rw (c.deref.ensures.value, c.status_of.ensures, c.deref-2.ensures.value) at c.in_ok-front.ensures
