use Rattle.office_spns.proofs.spns.spns_table.Goals as goal

pub returns : goal.returns
returns c = rw (← c.in_ok-indexed.ensures) c.indexed_table.ensures
