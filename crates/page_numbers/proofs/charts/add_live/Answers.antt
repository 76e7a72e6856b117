use Rattle.page_numbers.specs.Rows.{message_row}
use Rattle.page_numbers.proofs.SameRows.{same_item}
use Rattle.page_numbers.proofs.charts.add_live.Goals as goal

pub loop-message-preserved : goal.loop-message-preserved
loop-message-preserved c =
    same_item (message_row c.args.chart c.args.is_j1939 c.args.blocks.now) c.args.messages.now c.loop-message.message-index
    c.message-item.result c.args.rows.now.items c.loop-message.rows.items c.add_ident.new.rows.items c.loop-message-test.true
    c.message-item.is c.loop-message.invariant c.in_ok-add_ident.ensures
