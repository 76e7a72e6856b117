use Rattle.dbc_sheet.proofs.Common.{arith}
use Rattle.dbc_sheet.proofs.Clearness.{one_more, all_taken}
use Rattle.dbc_sheet.proofs.form.each_has_form.Goals as goal

pub loop-item-preserved : goal.loop-item-preserved
loop-item-preserved g c =
    one_more g.T.Formed.form c.args.items.now c.loop-item.item-index c.item-item.result c.loop-item-test.true
    c.item-item.is c.has_form.ensures c.loop-item.invariant

pub returns : goal.returns
returns g c =
    all_taken g.T.Formed.form c.args.items.now c.loop-item.item-index (omega (arith, c.loop-item-test.false))
    c.loop-item.invariant
