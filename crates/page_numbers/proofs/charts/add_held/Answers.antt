use Rattle.page_numbers.specs.Rows.{ident_row}
use Rattle.page_numbers.proofs.SameRows.{same_item}
use Rattle.page_numbers.proofs.charts.add_held.Goals as goal

pub loop-ident-preserved : goal.loop-ident-preserved
loop-ident-preserved c =
    same_item (ident_row c.args.chart c.args.is_j1939 c.args.blocks.now) c.args.held.now c.loop-ident.ident-index
    c.ident-item.result c.args.rows.now.items c.loop-ident.rows.items c.add_ident.new.rows.items c.loop-ident-test.true
    c.ident-item.is c.loop-ident.invariant c.in_ok-add_ident.ensures
