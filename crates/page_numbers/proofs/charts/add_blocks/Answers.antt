use Rattle.page_numbers.specs.Rows.{granted_rows}
use Rattle.page_numbers.proofs.SameRows.{same_item}
use Rattle.page_numbers.proofs.charts.add_blocks.Goals as goal

pub loop-granted-preserved : goal.loop-granted-preserved
loop-granted-preserved c =
    same_item (granted_rows c.args.chart) c.args.blocks.now c.loop-granted.granted-index c.granted-item.result
    c.args.rows.now.items c.loop-granted.rows.items c.add_granted.new.rows.items c.loop-granted-test.true
    c.granted-item.is c.loop-granted.invariant c.in_ok-add_granted.ensures
