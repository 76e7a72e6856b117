use Rattle.dbc_read.proofs.Common.{take, bytes_eq, text_cmp}
use Rattle.dbc_read.proofs.FirstRefused.{ArePassed}
use Rattle.dbc_read.proofs.first_fault.name_fault.Given as goal

abbrev pub invariant-loop-item : goal.invariant-loop-item
invariant-loop-item g l = ArePassed text_cmp bytes_eq g.T.NamedItem.name_of l.limit (take l.item-index l.items) l.before
