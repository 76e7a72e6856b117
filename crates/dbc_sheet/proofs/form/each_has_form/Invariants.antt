use Rattle.dbc_sheet.proofs.Common.{All, take}
use Rattle.dbc_sheet.proofs.form.each_has_form.Given as goal

abbrev pub invariant-loop-item : goal.invariant-loop-item
invariant-loop-item g l = All g.T.Formed.form (take l.item-index l.items)
