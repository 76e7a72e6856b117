use Rattle.dbc_read.proofs.Common.{◌≡◌, false, take, has_name}
use Rattle.dbc_read.proofs.first_fault.is_named.Given as goal

abbrev pub invariant-loop-item : goal.invariant-loop-item
invariant-loop-item g l = has_name g.T.NamedItem.name_of (take l.item-index l.items) l.name ≡ false
